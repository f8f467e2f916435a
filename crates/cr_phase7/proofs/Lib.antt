pub mod Pass
pub mod Lengths
