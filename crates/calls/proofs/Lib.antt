pub mod KeptLaws
mod CarryLaws
mod TagLaws
mod TimingLaws
