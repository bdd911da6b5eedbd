pub mod Inputs
pub mod Worked
