-- What a reader must believe of an answer: its number, its values, and what a finish answers.
pub mod Answers
