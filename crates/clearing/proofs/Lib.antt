-- The laws of a record found and cleared.
pub mod RemovalLaws
