pub mod Answers
pub mod ErrorStreams
pub mod Logs
pub mod Refusals
pub mod Traffic
pub mod Waits
