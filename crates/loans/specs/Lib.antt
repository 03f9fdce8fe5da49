-- What a reader must believe of the loans: what a call on a lent card comes to where the card is held.
pub mod Holding
