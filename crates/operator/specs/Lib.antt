pub mod DueLines
pub mod EventLines
