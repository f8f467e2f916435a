pub mod Declarations
pub mod Kept
pub mod Linkage
pub mod Meaning
pub mod Redeclaration
