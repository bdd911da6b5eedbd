pub mod Estimates
pub mod Weight
pub mod Blend
