pub mod Counts
pub mod Levels
pub mod NoteLimits
