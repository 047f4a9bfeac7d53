pub mod RefusalLaws
pub mod AnswerLaws
