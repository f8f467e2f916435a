pub mod ExpressionTypes
pub mod Initialisers
pub mod Kept
pub mod Members
pub mod Splicing
