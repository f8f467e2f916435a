pub mod Meant
pub mod Judgement
pub mod Outcome
pub mod Editing
pub mod Making
pub mod Planning
