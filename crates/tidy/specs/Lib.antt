pub mod Clip
pub mod Lines
