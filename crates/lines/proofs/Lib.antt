pub mod RowKindLaws
pub mod Anchors
pub mod HeaderTrip
pub mod ZoneTrip
pub mod BorderTrip
pub mod RowTrip
pub mod RowJudge
