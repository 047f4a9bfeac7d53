pub mod Hour
pub mod Day
