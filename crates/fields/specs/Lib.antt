-- What a reader must believe of the fields of a line.
pub mod Pieces
pub mod Behind
