pub mod ValueLaws
pub mod PlaceLaws
pub mod WrittenLaws
pub mod ReadWritten
pub mod FaultLaws
pub mod ViaLaws
pub mod SeenLaws
pub mod StartLaws
pub mod SaysLaws
pub mod FaultOrder
pub mod MessageLaws
pub mod CleanLaws
pub mod RepeatableLaws
mod MediaLaws
pub use Rattle.header_fields.proofs.HeaderLineLaws
pub use Rattle.header_fields.proofs.HeadLaws
pub use Rattle.header_fields.proofs.FieldLaws
