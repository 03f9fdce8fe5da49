-- The laws of how lines come and answers go that crates above cite.
pub mod TakeLaws
pub mod FramingLaws
pub mod AnswerLaws
