pub mod TagLaws
pub mod SoundLaws
pub mod ContactLaws
pub mod SendLaws
pub mod DraftLaws
