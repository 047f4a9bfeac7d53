pub mod Anchors
pub mod GridLaws
pub mod TellLaws
pub mod WhyLaws
