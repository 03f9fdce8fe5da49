-- The laws of Insert's work that crates above cite.
pub mod BesideLaws
pub mod PairLaws
