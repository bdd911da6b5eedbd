pub mod Start
pub mod Starts
