pub mod Assignment
pub mod Sound
pub mod Law
