pub mod Anchors
pub mod RecordsLaws
