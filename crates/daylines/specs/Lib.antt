pub mod Labelled
pub mod Label
pub mod Day
pub mod Room
