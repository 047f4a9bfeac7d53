pub mod MergedLaws
pub mod MergedText
pub mod EmptySheet
pub mod Answered
pub mod Anchors
