-- What a reader must believe of a call's checks: when a card is bad, and the order of 13, 2, 3, 4 to 10 and 11.
pub mod Checks
