pub mod States
pub mod Rules
pub mod Bounds
pub mod Start
pub mod Answers
