pub mod Meant
pub mod Occurring
pub mod Telling
pub mod Whole
