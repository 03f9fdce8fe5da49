-- What a reader must believe of a request that is played on both sides.
pub mod Round
