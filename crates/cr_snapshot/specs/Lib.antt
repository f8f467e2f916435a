pub mod BuiltIns
pub mod Files
pub mod IncludeSearch
pub mod Seen
pub mod Tables
pub mod Totals
