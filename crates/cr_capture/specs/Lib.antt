pub mod Conflicts
pub mod Finding
pub mod Renaming
