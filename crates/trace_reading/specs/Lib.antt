pub mod Body
pub mod Message
pub mod Read
