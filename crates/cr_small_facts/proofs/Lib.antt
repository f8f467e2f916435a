pub mod Listed
pub mod Lists
pub mod Rising
pub mod Sets
pub mod Tokens
pub mod Told
