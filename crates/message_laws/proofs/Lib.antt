pub mod Askers
pub mod AwaitedOffers
pub mod Messages
pub mod QuietEvents
pub mod SentTexts
pub mod StandingCalls
pub mod TokenUse
pub mod Traces
