pub mod Texts
pub mod Traces
