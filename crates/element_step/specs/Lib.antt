pub mod ElementStep
pub mod Rains
pub mod Bounds
pub mod Answers
