pub mod Listing
pub mod Json
pub mod Refusals
pub mod Quoting
