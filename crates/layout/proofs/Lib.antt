pub mod LayoutLaws
pub mod SumLaws
