pub mod TableLaws
pub mod PlanLaws
pub mod SessionLaws
pub mod NoteLaws
