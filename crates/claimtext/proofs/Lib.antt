pub mod Anchors
pub mod ListLaws
pub mod PublishedLaws
