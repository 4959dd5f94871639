pub mod Limits
pub mod BindingRules
pub mod Registering
pub mod Bound
pub mod Registrar
pub mod Changes
pub mod BindingLaws
pub mod Entries
