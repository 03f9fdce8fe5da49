-- What a reader must believe of bucket lists.
pub mod BucketList
