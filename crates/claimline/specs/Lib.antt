pub mod ClaimText
pub mod Good
