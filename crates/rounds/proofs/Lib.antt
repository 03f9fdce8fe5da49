-- The laws of a request played on both sides that crates above cite.
pub mod RoundLaws
pub mod CarryLaws
pub mod BegunLaws
