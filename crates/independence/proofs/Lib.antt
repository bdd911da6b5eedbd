pub mod WalkLaws
pub mod ReachedLaws
pub mod ShownLaws
pub mod Theorem
