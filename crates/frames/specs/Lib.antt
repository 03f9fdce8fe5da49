-- What a reader must believe of how lines come and answers go.
pub mod Framing
pub mod Answer
