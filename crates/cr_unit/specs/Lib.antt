pub mod Preprocessing
pub mod Converting
