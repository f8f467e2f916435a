pub mod OneToken
pub mod Tokens
pub mod Substitution
pub mod Expansion
pub mod Definition
pub mod MacroTables
pub mod Laws
pub mod Uses
