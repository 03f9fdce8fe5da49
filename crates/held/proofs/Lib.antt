-- The laws of the card that a call goes on with, which crates above cite.
pub mod HeldLaws
