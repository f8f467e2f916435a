pub mod Entries
pub mod Judged
pub mod Offsets
pub mod Known
pub mod Plans
pub mod Readings
pub mod Few
