-- What a reader must believe of least records in words.
pub mod Mended
