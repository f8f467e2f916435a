pub mod Renaming
pub mod Finals
pub mod Traces
pub mod Standing
