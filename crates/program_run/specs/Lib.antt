pub mod Machine
pub mod Pieces
