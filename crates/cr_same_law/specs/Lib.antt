pub mod Told
pub mod SameMeaning
pub mod Asks
