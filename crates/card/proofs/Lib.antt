-- The laws of the card that crates above cite.
mod PartsLaws
pub mod GoodLaws
pub mod AnswerLaws
pub mod BeginLaws
pub mod CallLaws
pub mod FinishLaws
pub mod FinishedLaws
pub mod LastingLaws
