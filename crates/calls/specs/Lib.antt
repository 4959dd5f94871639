pub mod State
pub mod Tags
pub mod Finding
pub mod Settled
pub mod Carrying
pub mod Timing
pub mod Changes
