pub mod LookLaws
pub mod ReportLaws
