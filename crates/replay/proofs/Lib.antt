pub mod ReplayLaws
