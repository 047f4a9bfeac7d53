pub mod Buffer
pub mod Heard
