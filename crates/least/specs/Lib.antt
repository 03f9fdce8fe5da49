-- What a reader must believe of least records along one way.
pub mod Least
