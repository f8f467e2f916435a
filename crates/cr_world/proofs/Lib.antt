pub mod Held
pub mod Written
pub mod Drafted
pub mod Histories
