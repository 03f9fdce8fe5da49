-- The laws of what a driver is told that crates above cite.
pub mod ToldLaws
