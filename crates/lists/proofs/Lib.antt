-- The laws of bucket lists that crates above cite.
pub mod Naming
pub mod ListLaws
