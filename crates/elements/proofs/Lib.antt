pub mod KindLaws
pub mod ElementLaws
