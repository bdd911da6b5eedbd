pub mod Figures
pub mod Inflow
pub mod Routing
pub mod Correction
pub mod AtLeast
