-- What a reader must believe of the copies.
pub mod Copy
pub mod BucketAt
