pub mod StateLaws
pub mod BoundsLaws
pub mod AnswerLaws
pub mod PartsLaws
