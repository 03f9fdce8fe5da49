-- What a reader must believe of a round with an honest rack.
pub mod Seen
