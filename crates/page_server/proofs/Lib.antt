pub mod ArrivalLaws
pub mod LeavingLaws
pub mod RoomLaws
