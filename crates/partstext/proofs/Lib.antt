pub mod Anchors
pub mod PartsTextLaws
