pub mod Asking
pub mod Done
mod FactRows
mod Free
pub mod Growing
mod Reading
pub mod Renaming
mod Rows
pub mod Selecting
mod Staying
mod Stepping
mod Tagging
