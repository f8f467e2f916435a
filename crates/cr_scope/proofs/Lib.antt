pub mod Declared
pub mod First
pub mod Looked
pub mod Members
pub mod Moves
pub mod Paths
pub mod Numbers
