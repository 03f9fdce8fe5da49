-- The laws of BadCard on a card's parts that crates above cite.
pub mod JudgeLaws
pub mod FitLaws
