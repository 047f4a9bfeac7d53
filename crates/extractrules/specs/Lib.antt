pub mod Start
pub mod Filled
pub mod Extraction
pub mod Inner
