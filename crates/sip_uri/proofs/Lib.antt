mod BeginLaws
mod LabelLaws
mod NameScan
pub mod HostLaws
mod HostAlone
mod RawLaws
mod PlainUsers
pub mod GrammarLaws
mod Escapes
pub mod RoundTrip
mod FieldLaws
mod PlainParam
pub mod QuotedLaws
pub mod BlankLaws
pub mod UriBytes
mod NameCuts
mod NameSpelling
pub mod NameLaws
pub mod Closed
pub mod FieldTrip
pub mod NameTrip
pub mod ParamBehind
