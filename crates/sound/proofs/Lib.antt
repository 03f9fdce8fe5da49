-- What clause 1 tells of one level, and what the loops that check have seen so far.
pub mod SoundLaws
pub mod Checking
