pub mod Fraction
pub mod Series
pub mod Exact
pub mod Margins
