pub mod ExactStep
pub mod ExactForecast
pub mod ExactRun
pub mod Following
pub mod Limit
