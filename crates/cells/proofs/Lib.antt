pub mod CellLaws
pub mod BoundsLaws
pub mod CountLaws
pub mod DrainLaws
