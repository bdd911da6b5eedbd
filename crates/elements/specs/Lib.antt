pub mod Kinds
pub mod Elements
pub mod Rules
pub mod Bounds
