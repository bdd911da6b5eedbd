pub mod Entries
pub mod Trials
pub mod SameReadings
