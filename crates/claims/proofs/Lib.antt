pub mod FormLaws
pub mod NameLaws
pub mod UnflaggedLaws
pub mod JudgeLaws
