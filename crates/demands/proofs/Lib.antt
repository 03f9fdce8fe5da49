-- Laws of the demands that crates above cite.
pub mod DearLaws
pub mod SortedLaws
pub mod QueueLaws
pub mod AnswerLaws
pub mod RefusalsLaws
pub mod StepLaws
pub mod FinishLaws
pub mod Demand2
pub mod Sample
pub mod RoundLaws
pub mod StandsLaws
pub mod WrongLaws
