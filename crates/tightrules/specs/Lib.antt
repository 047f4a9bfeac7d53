pub mod Tight
pub mod Measure
pub mod Pass
