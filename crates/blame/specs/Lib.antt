pub mod Blame
pub mod RangeBlame
