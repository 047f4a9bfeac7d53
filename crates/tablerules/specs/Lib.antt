pub mod Table
pub mod Good
