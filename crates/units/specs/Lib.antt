pub mod Units
pub mod Ceiling
