pub mod Buffers
pub mod Turns
