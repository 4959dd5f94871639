pub mod LineLaws
pub mod HeaderLineLaws
pub mod FieldLoop
pub mod EndedLaws
pub mod RawLaws
pub mod RawLoop
pub mod HeadSteps
pub mod FieldLaws
pub mod HeadLaws
pub mod LookupLaws
pub mod TokenLaws
pub mod NameLaws
mod NextLine
