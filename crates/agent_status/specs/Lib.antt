pub mod Calls
pub mod Events
pub mod Sessions
pub mod Users
