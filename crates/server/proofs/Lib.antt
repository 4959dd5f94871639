pub mod InputLaws
pub mod WordLaws
pub mod ReplayLaws
pub mod StreamLaws
pub mod StateLaws
