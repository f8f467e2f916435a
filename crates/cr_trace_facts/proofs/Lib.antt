pub mod Gained
pub mod Told
