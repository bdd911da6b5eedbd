pub mod CeilingLaws
pub mod AnswerLaws
pub mod UnderLaws
