-- The laws of the desk's replies in bytes that crates above cite.
pub mod ReplyLaws
