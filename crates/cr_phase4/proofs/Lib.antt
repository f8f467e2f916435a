pub mod Growing
pub mod Snapshots
mod Rows
