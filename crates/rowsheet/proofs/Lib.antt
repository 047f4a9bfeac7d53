pub mod Anchors
pub mod LengthLaws
pub mod SheetLaws
pub mod WriteLaws
pub mod JudgedLaws
