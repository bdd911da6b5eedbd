pub mod Gauges
pub mod Looks
pub mod Places
pub mod Rules
pub mod Bounds
