pub mod Anchors
pub mod BoundLaws
