pub mod Step
pub mod Forecast
pub mod Answer
pub mod Lent
