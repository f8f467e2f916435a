pub mod Guards
pub mod Derivation
pub mod Machine
pub mod Running
pub mod Laws
pub mod Weights
