pub mod Ties
pub mod Members
