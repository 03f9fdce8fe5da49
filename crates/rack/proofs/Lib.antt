-- The laws of the rack that crates above cite.
pub mod RefusalLaws
pub mod StandLaws
pub mod ListedLaws
