pub mod RangeLaws
pub mod PlacesLaws
