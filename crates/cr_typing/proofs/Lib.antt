pub mod Lists
pub mod Names
pub mod SameTypes
pub mod Splicing
