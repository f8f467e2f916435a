pub mod Numbers
pub mod QualifiedNames
pub mod Kinds
pub mod Givens
pub mod Requests
pub mod Seen
