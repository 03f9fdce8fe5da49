-- What a reader must believe of plain decimal.
pub mod Digits
pub mod Field
pub mod Promises
