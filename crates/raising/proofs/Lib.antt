pub mod RiseLaws
pub mod StillLaws
