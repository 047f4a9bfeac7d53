pub mod Anchors
pub mod ColumnLaws
pub mod ColumnTrip
pub mod ColumnPut
pub mod OptionalLaws
pub mod OptionalTrip
pub mod FieldEnd
