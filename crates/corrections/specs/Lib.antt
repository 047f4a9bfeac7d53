pub mod Corrections
pub mod Alongside
