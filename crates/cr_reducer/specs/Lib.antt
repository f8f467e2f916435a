pub mod Wave
pub mod Table
