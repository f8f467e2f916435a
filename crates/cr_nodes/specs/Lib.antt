pub mod Seen
pub mod Moves
pub mod Gathering
pub mod Advancing
pub mod Falling
pub mod Laws
