pub mod LossLaws
pub mod WritingLaws
