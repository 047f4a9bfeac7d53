pub mod Named
pub mod Unflagged
pub mod Magnitudes
