pub mod Values
pub mod Effects
pub mod Scenes
pub mod Messages
pub mod Rows
pub mod Refusals
