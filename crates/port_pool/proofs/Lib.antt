pub mod SlotLaws
pub mod HoldingLaws
pub mod PortLaws
pub mod ChangeLaws
pub mod PoolLaws
pub mod PlaceLaws
pub mod CallLaws
pub mod OrderLaws
