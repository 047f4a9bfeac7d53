pub mod Anchors
pub mod DaySheet
pub mod OwnFigures
