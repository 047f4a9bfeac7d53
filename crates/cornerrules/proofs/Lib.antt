pub mod Anchors
pub mod CornerLaws
pub mod ListedLaws
pub mod SheetLaws
