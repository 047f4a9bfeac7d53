pub mod Anchors
pub mod LabelLaws
pub mod LabelledLaws
pub mod PutLaws
pub mod FiledLaws
pub mod DayTheorems
