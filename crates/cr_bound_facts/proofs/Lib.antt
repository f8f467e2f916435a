pub mod Bridging
pub mod Collecting
