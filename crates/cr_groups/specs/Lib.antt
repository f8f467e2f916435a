pub mod Adding
pub mod Built
pub mod Firsts
pub mod Groups
pub mod Nearest
pub mod Outward
pub mod Rows
