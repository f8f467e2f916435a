pub mod Tokens
pub mod Following
pub mod Searched
pub mod Definitions
pub mod Conditions
pub mod Directives
pub mod Law
pub mod Texts
pub mod Finals
pub mod Apart
pub mod Edited
pub mod Traces
mod Rows
pub mod Standing
