-- The laws of a sitting that crates above cite.
pub mod TurnLaws
pub mod EndLaws
pub mod WholeLaws
pub mod LoopLaws
