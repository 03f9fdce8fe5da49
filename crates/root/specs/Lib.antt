-- What is asked of the root's slots.
pub mod Root
