-- The laws of the first checks that crates above cite.
pub mod CheckLaws
