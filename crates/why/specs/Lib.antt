pub mod Why
pub mod Told
