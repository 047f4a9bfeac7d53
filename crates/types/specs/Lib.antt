pub mod LineLimits
pub mod LineColumns
pub mod Ranges
pub mod Constructors
