pub mod Anchors
pub mod ReadLaws
pub mod JudgedTextLaws
pub mod LeftLaws
pub mod CorrectedLaws
pub mod EmptySheet
pub mod IntoLaws
