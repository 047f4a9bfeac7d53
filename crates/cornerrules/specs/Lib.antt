pub mod Corners
pub mod Listed
