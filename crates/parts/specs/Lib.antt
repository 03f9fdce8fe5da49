-- What a reader must believe of a card's parts.
pub mod Parts
