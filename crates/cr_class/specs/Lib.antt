pub mod Accepted
pub mod Declarations
pub mod Graph
pub mod Judging
pub mod RenameClass
pub mod Sharing
pub mod ShownOrder
pub mod Verdict
