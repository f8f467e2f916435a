pub mod Kept
pub mod Known
pub mod Laws
pub mod Nested
pub mod Shapes
