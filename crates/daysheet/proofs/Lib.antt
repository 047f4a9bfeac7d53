pub mod Anchors
pub mod SheetLaws
