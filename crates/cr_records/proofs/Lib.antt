mod Adding
mod Announcing
mod Calls
mod Ending
pub mod Growing
mod Same
pub mod Seen
pub mod Selecting
mod Writing
