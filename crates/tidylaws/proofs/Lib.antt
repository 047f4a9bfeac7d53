pub mod ColumnStays
pub mod Accepted
