pub mod PlaceLaws
pub mod SendLaws
pub mod ServingLaws
pub mod TableLaws
pub mod TraceLaws
pub mod TurnLaws
pub mod Walks
