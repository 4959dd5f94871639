pub mod Ends
pub mod Limits
pub mod Losses
pub mod Writing
