-- The work of Insert on its two paths.
pub mod PairWork
