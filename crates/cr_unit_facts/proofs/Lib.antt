pub mod AllTold
pub mod Joined
pub mod Lists
pub mod Natured
pub mod Said
pub mod Selected
pub mod Spelled
pub mod Told
