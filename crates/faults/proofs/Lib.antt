pub mod AgreeLaws
pub mod NumberBad
pub mod PointBad
pub mod FieldBad
pub mod Blames
pub mod Faults
pub mod Within
pub mod AnchorsFaults
