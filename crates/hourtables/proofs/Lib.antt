pub mod HourLaws
pub mod DayLaws
