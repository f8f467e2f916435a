pub mod Fitting
pub mod Standing
pub mod Called
pub mod Falling
pub mod Alternatives
pub mod Whole
pub mod Onward
pub mod Asking
