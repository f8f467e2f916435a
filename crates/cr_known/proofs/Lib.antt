pub mod Acting
pub mod Cutting
pub mod Ending
pub mod Nesting
pub mod Walking
