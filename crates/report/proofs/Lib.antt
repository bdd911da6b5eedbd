pub mod FiguresLaws
pub mod ReportLaws
