-- What a reader must believe of the desk's replies in bytes.
pub mod Reply
