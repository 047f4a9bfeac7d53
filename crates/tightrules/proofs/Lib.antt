pub mod Anchors
pub mod BitsLaws
pub mod StepLaws
pub mod SharperLaws
pub mod PassLaws
pub mod SameLaws
