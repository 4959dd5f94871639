pub mod ReadTexts
pub mod ReplyLaws
pub mod DialogLaws
pub mod BodyLaws
pub mod ReadLaws
