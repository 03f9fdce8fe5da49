-- Whether the least records of a path are true.
pub mod Leasts
