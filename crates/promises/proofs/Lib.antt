pub mod AnchorsDemand
pub mod AnchorsTaking
pub mod AnchorsSame
pub mod AnchorsAllowed
