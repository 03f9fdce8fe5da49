-- The paper's table, as one theorem.
pub mod Paper
pub mod Whole
