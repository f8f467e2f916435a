pub mod Refusals
pub mod Goals
pub mod Units
pub mod Reading
pub mod Seen
