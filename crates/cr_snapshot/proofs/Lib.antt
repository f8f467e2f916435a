pub mod Growing
pub mod Headers
pub mod Looked
pub mod Rows
pub mod Within
