pub mod Messages
pub mod Dressed
pub mod Dressing
