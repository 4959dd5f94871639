pub mod Descriptors
pub mod Refusals
pub mod Warnings
