pub mod Sema
pub mod Walking
