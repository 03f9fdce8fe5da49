-- The laws of an Insert that is worked out.
pub mod PreparedLaws
