pub mod ObserveLaws
pub mod ReaderLaws
