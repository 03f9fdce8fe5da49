-- What a reader must believe of the driver's entrance.
pub mod Driven
