pub mod Ends
pub mod Seats
pub mod Versions
pub mod Sessions
pub mod Offers
pub mod Serving
pub mod Answers
