pub mod AckRequests
pub mod RuleLaws
