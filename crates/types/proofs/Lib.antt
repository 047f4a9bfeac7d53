pub mod Anchors
pub mod AllLaws
pub mod RangeLaws
pub mod ConstructorLaws
