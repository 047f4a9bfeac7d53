pub mod Anchors
pub mod BlameLaws
pub mod RangeLaws
