pub mod Anchors
pub mod MarkLaws
