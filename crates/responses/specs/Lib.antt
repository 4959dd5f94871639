pub mod Tokens
pub mod Registering
pub mod Tags
pub mod Words
pub mod Responding
