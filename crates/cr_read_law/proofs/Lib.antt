pub mod Tables
pub mod Numbers
pub mod Converted
pub mod Read
