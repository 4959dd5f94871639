mod NumberLaws
mod NameLaws
mod EntryLaws
mod ScriptLaws
pub mod PlaceLaws
pub mod MoreLaws
