pub mod Anchors
pub mod StretchLaws
pub mod RoomLaws
pub mod JudgeLaws
pub mod GoodLaws
