pub mod RowKinds
pub mod Lines
pub mod SheetLine
pub mod Said
pub mod SaidRow
