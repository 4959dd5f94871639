pub mod LineLaws
pub mod MomentLaws
pub mod ShownLaws
