pub mod Names
pub mod NameTable
pub mod Path
pub mod Substitution
