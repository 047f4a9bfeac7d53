pub mod ListedLaws
pub mod LoweringLaws
pub mod LoadLaws
pub mod CapLaws
pub mod FlatLaws
