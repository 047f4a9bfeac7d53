pub mod RowLaws
pub mod RowStored
pub mod PickedLaws
