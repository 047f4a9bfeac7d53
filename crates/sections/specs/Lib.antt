pub mod Section
pub mod Stored
