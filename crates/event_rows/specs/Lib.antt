pub mod Tally
pub mod Lifetimes
pub mod State
pub mod Rule
pub mod Rules
pub mod Rows
pub mod Trace
