pub mod GainLaws
