-- The laws of a request's bucket list that crates above cite.
pub mod ListingLaws
