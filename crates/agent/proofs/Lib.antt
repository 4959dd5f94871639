mod StepLaws
mod ConfigLaws
mod TraceLaws
mod EnterLaws
mod StandingLaws
mod SourceLaws
