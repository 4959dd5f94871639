pub mod Identifiers
pub mod Counting
pub mod Making
pub mod Sound
pub mod Requests
