pub mod Connections
pub mod Flows
pub mod Held
pub mod Requests
pub mod Responses
pub mod Stages
