pub mod Anchors
pub mod CornerTextLaws
