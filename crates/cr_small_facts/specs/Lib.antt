pub mod Filing
pub mod Laws
pub mod Places
pub mod TextFacts
