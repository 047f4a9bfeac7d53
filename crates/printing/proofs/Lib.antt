pub mod PrintedLaws
pub mod BoundFits
pub mod RowsLaws
pub mod WordLaws
pub mod HeardTexts
