pub mod UnitMeaning
pub mod UnitFacts
pub mod Keeps
pub mod Trees
pub mod OneMeaning
pub mod OnlyNames
pub mod AcceptedRenames
