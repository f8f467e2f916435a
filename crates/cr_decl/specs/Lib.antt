pub mod Declarators
pub mod Specifiers
