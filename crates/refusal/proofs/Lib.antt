-- The laws of refusals that crates above cite.
pub mod RefusalLaws
pub mod ReasonLaws
