-- The laws of the stores.
pub mod StoreLaws
