pub mod Starred
pub mod TwoStorms
