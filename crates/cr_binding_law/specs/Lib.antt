pub mod AskedIdentifiers
pub mod ConsistentUnits
pub mod Renaming
pub mod RenamingKeys
pub mod UnitStays
