pub mod Told
pub mod Stays
