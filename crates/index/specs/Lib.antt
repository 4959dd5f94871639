pub mod Buckets
pub mod Entries
pub mod Numbers
pub mod Passing
pub mod PrintKeys
