pub mod Walk
pub mod Flat
