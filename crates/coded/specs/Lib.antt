pub mod Coded
pub mod Version
