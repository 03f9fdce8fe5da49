-- What a reader must believe of refusals.
pub mod Refusal
pub mod Reason
