pub mod Items
pub mod Figures
