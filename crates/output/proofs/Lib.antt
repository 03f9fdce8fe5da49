-- The laws of what an input makes the desk print that crates above cite.
pub mod OutputLaws
pub mod ShortLaws
pub mod TakenLaws
pub mod HeardLaws
pub mod FeedLaws
