-- What a reader must believe of a request in words.
pub mod Kinds
