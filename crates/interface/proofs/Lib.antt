pub mod Anchors
pub mod Figures
pub mod Told
