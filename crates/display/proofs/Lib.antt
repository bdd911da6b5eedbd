pub mod DisplayLaws
