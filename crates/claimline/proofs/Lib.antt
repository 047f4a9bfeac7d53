pub mod Anchors
pub mod ReadLaws
