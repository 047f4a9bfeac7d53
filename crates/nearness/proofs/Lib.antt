pub mod RaiseLaws
pub mod YieldLaws
pub mod SortLaws
