pub mod WalkLaws
pub mod StateLaws
pub mod HandedLaws
pub mod Theorem
