pub mod Columns
pub mod ColumnText
pub mod ColumnLine
pub mod Optional
