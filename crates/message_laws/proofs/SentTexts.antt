pub mod Listing
pub mod ReadEvents
pub mod ReadKnown
pub mod ReadReplies
pub mod ReadRows
pub mod ReadSends
pub mod ReadSteps
pub mod Registered
