pub mod Doing
pub mod Jumping
pub mod Seen
pub mod Staying
