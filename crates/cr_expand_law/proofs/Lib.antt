pub mod Following
pub mod Renamed
pub mod Items
pub mod Calls
pub mod Law
pub mod Uses
pub mod Origins
mod Rows
