pub mod Cut
pub mod Fields
pub mod Tidied
