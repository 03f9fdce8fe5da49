-- What a reader must believe of a job's bucket list.
pub mod Listing
