-- What a reader must believe of uniqueness.
pub mod One
