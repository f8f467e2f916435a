pub mod Declares
pub mod Lenses
pub mod Membering
pub mod Naming
pub mod Reading
pub mod Scopes
pub mod Tagging
pub mod Typenames
