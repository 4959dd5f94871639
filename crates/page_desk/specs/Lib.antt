pub mod Latest
pub mod Lines
pub mod Rings
pub mod Shown
pub mod Snapshots
