pub mod Framing
pub mod Going
