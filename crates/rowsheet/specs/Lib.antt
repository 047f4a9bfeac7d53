pub mod RowSheet
