pub mod Lines
pub mod Limits
pub mod Ledger
pub mod Holds
pub mod CallLines
pub mod Reasons
pub mod NoteLines
pub mod Notes
