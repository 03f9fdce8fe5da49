-- What a reader must believe of what an input makes the desk print.
pub mod Output
pub mod Room
