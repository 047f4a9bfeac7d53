pub mod RoundLoop
pub mod TurnLaws
