-- What a reader must believe of the card that a call goes on with.
pub mod Held
