pub mod Work
pub mod Equation
mod Rows
pub mod Pieces
