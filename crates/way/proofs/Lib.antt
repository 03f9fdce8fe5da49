-- The laws of a way that crates above cite.
pub mod WayLaws
pub mod EvictLaws
pub mod KeptLaws
pub mod Pins
