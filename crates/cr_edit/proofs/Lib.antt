pub mod Writes
pub mod Editings
pub mod Replaced
