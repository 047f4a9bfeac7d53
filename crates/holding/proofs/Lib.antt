pub mod Anchors
pub mod HoldLaws
