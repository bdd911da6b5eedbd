pub mod Bytes
pub mod Ranges
