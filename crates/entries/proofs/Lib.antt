pub mod CellRules
pub mod NextLaws
pub mod ForecastLaws
pub mod StepRuleLaws
pub mod TrialLaws
pub mod SameReadings
