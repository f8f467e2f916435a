pub mod Outside
pub mod Histories
pub mod Calls
pub mod Memory
pub mod Disks
