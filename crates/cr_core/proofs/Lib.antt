pub mod Units
pub mod Soundness
pub mod Runs
pub mod Counts
pub mod Idle
pub mod Laws
pub mod Facts
