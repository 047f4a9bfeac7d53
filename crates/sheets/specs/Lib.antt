pub mod Room
pub mod Sheets
