-- The laws of the driver's entrance that crates above cite.
pub mod DrivenLaws
