pub mod Calls
pub mod CabinetRun
pub mod FractionRun
pub mod Claim
