pub mod LayoutLaws
pub mod AnswerLaws
