-- The laws of card and rack together that crates above cite.
pub mod WorldLaws
pub mod PromisedLaws
pub mod StoreLaws
