pub mod Office
pub mod Reasons
pub mod Note
pub mod Plan
pub mod Effect
pub mod Replies
pub mod CallRule
pub mod CallRows
