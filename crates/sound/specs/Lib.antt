-- What was fetched for one path, and what may stand there.
pub mod Fetched
pub mod Sound
pub mod Room
