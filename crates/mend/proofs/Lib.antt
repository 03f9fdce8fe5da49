-- The laws of least records in words that crates above cite.
pub mod BucketLaws
pub mod MendLaws
pub mod PartLaws
