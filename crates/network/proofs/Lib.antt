pub mod StepLaws
pub mod NumbersLaws
pub mod LayoutLaws
pub mod LentLaws
