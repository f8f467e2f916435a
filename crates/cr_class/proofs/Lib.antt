pub mod Accepting
pub mod Candidates
mod Classes
mod Declared
mod Given
mod Judged
mod Graphs
mod Leading
mod Least
mod Listed
mod Reaching
mod Sharings
