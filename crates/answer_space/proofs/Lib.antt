pub mod PlacesLaws
pub mod EmptyLaws
pub mod LayLaws
