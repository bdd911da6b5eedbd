pub mod HoldLaws
pub mod RecordEndLaws
