pub mod Binder
pub mod Frames
