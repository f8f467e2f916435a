pub mod Joined
pub mod NameTables
pub mod Shifts
