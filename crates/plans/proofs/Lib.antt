mod CallLaws
mod FirstLaws
mod OfferLaws
mod PlanLaws
pub mod ReasonLaws
