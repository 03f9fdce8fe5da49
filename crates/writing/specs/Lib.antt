-- What a reader must believe of the stores.
pub mod Stored
