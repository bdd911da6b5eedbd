pub mod Rating
pub mod Noise
pub mod Bounds
pub mod Looks
pub mod NoiseFigures
