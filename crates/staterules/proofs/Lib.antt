pub mod Anchors
pub mod StateLaws
pub mod StandingsLaws
