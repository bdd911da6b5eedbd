pub mod LeadsLaws
pub mod NetworkLaws
