pub mod ClipLaws
pub mod FieldsLeft
pub mod LinesLeft
pub mod BeginLaws
pub mod TidyLaws
