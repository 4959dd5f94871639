pub mod LineCuts
pub mod LineLaws
mod CleanLines
pub mod FrontLaws
pub mod OrderLaws
pub mod OriginLaws
pub mod MediumLaws
pub mod AddressLaws
pub mod GroupLaws
pub mod MediaLaws
pub mod MediaReads
pub mod SessionLaws
pub mod GrammarLaws
pub mod RoundTrip
pub mod WrittenForm
