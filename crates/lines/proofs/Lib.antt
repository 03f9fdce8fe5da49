-- The laws of the desk's lines that crates above cite.
pub mod SaysLaws
pub mod LinesLaws
