-- What a reader must believe of the card: when it is bad, what each call refuses, and what each call answers.
pub mod Tables
pub mod BadCard
pub mod Answers
pub mod Calls
pub mod Finish
pub mod Lasting
