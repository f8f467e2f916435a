pub mod Meant
pub mod Tables
