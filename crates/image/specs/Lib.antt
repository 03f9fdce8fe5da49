-- What a reader must believe of a card in words: which words it has, and which card some words stand for.
pub mod Image
pub mod Reading
