pub mod AnswerLines
pub mod HourLaws
