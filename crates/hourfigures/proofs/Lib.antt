pub mod ItemLaws
pub mod KeptLaws
