-- The laws of the root's slots.
pub mod Slots
