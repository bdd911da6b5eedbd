pub mod WeightLaws
pub mod BlendLaws
pub mod OrderLaws
