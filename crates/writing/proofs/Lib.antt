pub mod LengthLaws
pub mod LeftLaws
pub mod TextLaws
