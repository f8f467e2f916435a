pub mod Renames
pub mod Report
pub mod Written
pub mod Writing
pub mod Planned
pub mod Seen
