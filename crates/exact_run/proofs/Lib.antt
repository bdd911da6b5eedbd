pub mod StepNear
pub mod RecordNear
pub mod ForecastNear
pub mod RunNear
pub mod AboveLaws
pub mod LimitLaws
