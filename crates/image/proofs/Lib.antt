-- The laws of a card in words that crates above cite.
pub mod ImageLaws
