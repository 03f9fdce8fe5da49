-- What a reader must believe of the rack.
pub mod Answers
pub mod Promises
