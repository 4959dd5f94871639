pub mod Limits
pub mod Numbers
pub mod Values
pub mod Reading
pub mod Grammar
pub mod Writing
