pub mod Afterwards
pub mod AnswersKnown
pub mod Listing
pub mod OffersOpen
pub mod Spots
pub mod Unanswered
pub mod Untouched
