pub mod BufferLaws
pub mod HeardLaws
pub mod PuttingLaws
