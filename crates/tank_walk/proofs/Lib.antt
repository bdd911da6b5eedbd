pub mod PutLaws
pub mod TankLaws
pub mod RowLaws
pub mod TurnLaws
pub mod ForecastLaws
pub mod StepRows
