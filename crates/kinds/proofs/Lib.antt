-- The laws of a request in words that crates above cite.
pub mod KindLaws
