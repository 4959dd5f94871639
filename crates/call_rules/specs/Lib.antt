pub mod Speaking
pub mod Places
pub mod DialogRule
pub mod Requests
pub mod Responses
pub mod Content
pub mod Reach
pub mod Offers
