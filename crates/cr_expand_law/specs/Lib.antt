pub mod Renaming
pub mod Uses
pub mod Origins
