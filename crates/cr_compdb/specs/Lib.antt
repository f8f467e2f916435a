pub mod Command
pub mod Modes
pub mod Settings
pub mod Entries
pub mod Database
