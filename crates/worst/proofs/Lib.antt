pub mod Anchors
pub mod TopLaws
pub mod Worst
pub mod Calls
pub mod TableRounds
pub mod StepOrder
pub mod FewRounds
