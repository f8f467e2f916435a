pub mod Asks
pub mod BothLinked
pub mod Clauses
pub mod Leasts
pub mod Meant
pub mod Members
pub mod Pairs
