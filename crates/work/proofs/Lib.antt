-- The laws of the work that crates above cite.
pub mod WorkLaws
pub mod BesideLaws
