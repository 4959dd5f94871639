mod ContentLaws
pub mod PlaceLaws
