pub mod HeadRoundTrip
pub mod StartTexts
pub mod MessageRoundTrip
pub mod RepliesLaws
pub mod ReplyLaws
pub mod ParamTrip
pub mod ViaTrip
pub mod MarkedTrip
pub mod AnswerTrip
pub mod TrimLaws
pub mod TagTrip
pub mod NameTrip
pub mod NumberTrip
pub mod ServerViaTrip
pub mod RequestTrip
pub mod RequiredLines
pub mod MarkedText
mod RoomLengths
