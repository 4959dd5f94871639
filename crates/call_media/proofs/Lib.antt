pub mod SeatLaws
pub mod KeptLaws
pub mod FreshLaws
pub mod HeldLaws
pub mod SpareLaws
pub mod AnswerLaws
pub mod ServeLaws
pub mod SessionLaws
