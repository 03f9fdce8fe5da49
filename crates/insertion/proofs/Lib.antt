-- The laws of an Insert's stores.
pub mod StoreLaws
