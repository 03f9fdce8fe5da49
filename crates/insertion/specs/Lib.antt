-- What a reader must believe of an Insert's stores.
pub mod Store
