-- The laws of a round with an honest rack.
pub mod RoundLaws
