pub mod OldTexts
pub mod Anchors
