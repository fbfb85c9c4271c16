pub mod AnswerLaws
pub mod PlannerLaws
pub mod Continuing
pub mod Overfull
pub mod Owed
pub mod Placing
pub mod SettingsLaws
pub mod Tally
