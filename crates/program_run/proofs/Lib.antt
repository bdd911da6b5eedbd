pub mod NextLaws
pub mod HeldLaws
pub mod ToPrintLaws
pub mod MeasureLaws
pub mod Theorem
