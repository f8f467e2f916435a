pub mod Acting
pub mod Binding
pub mod Ends
