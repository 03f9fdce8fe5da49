-- The laws of a line's fields that crates above cite.
pub mod PiecesLaws
pub mod NumbersLaws
pub mod WalkLaws
