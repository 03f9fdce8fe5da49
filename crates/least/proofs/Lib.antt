-- The laws of least records that crates above cite.
pub mod LeastLaws
pub mod Pins
