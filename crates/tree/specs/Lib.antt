-- What a reader must believe of the heap on buckets.
pub mod Tree
pub mod Path
pub mod Work
