pub mod PlacesLaws
pub mod DecimalLaws
pub mod FoursLaws
pub mod LineLaws
