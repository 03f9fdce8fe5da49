-- What a reader must believe of what a driver is told.
pub mod Told
