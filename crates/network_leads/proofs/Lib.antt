pub mod InputLaws
pub mod WorkLaws
pub mod TurnLaws
pub mod TankTurnLaws
