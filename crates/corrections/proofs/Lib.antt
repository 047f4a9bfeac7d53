pub mod Anchors
pub mod PieceLaws
pub mod SheetLaws
pub mod JudgedLaws
pub mod SheetAlongside
