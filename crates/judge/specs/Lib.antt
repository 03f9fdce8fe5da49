-- What a reader must believe of BadCard on a card's parts.
pub mod BadParts
