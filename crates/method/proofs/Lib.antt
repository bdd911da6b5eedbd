pub mod FiguresLaws
pub mod InflowLaws
pub mod OrderLaws
pub mod LayoutLaws
