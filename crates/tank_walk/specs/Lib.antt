pub mod Rows
pub mod Tanks
