pub mod RatingLaws
pub mod LookLaws
pub mod NoiseLaws
pub mod NoiseFigures
