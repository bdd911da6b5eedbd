pub mod Output
pub mod Starred
