pub mod Inputs
pub mod Held
