-- What a reader must believe of the shapes: what a call asks and promises of words that are lent to it.
pub mod Lending
