-- Damaged, put together.
pub mod Damaged
