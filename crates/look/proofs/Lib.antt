-- The laws of the look: one path's, and an Insert's two.
pub mod PathLaws
pub mod PairLaws
