pub mod Anchors
pub mod BoundTextLaws
