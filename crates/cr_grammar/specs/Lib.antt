pub mod Grammar
pub mod Spellings
