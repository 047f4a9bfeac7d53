pub mod Anchors
pub mod LabelLaws
pub mod JudgedDays
