pub mod KeepLaws
pub mod LoadLaws
pub mod WatchLaws
pub mod WalkLaws
