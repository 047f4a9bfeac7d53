pub mod Anchors
pub mod CutLaws
pub mod RepairLaws
pub mod LineLaws
pub mod MarkLaws
pub mod Twice
pub mod StaysLaws
pub mod LengthLaws
