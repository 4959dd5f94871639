pub mod BeginLaws
pub mod LineLaws
pub mod NoteLaws
