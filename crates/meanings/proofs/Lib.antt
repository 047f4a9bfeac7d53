pub mod Anchors
pub mod Room
