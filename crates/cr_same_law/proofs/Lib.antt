pub mod Told
pub mod Tags
pub mod SameMeaning
pub mod Asks
