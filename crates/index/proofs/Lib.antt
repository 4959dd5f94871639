pub mod BucketLaws
pub mod NumberLaws
pub mod Order
pub mod Places
pub mod Prints
