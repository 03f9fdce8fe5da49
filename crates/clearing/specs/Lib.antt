-- What a removal does to a way.
pub mod Removal
