pub mod Describing
pub mod Dressings
pub mod Growing
pub mod Marking
pub mod QuietMoves
pub mod QuietReplies
pub mod QuietRules
pub mod SeenMessages
