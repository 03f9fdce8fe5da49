-- What a reader must believe of an Insert that is worked out and not yet written.
pub mod Prepared
