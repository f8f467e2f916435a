pub mod Sound
pub mod Complete
pub mod Room
pub mod Accepts
pub mod Stacked
pub mod OneTree
pub mod Made
pub mod Numbers
pub mod Going
mod Rows
