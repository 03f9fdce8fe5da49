-- What a reader must believe of an answer of the card, printed.
pub mod Said
