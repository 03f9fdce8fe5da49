-- The laws of requests that crates above cite.
pub mod RequestLaws
