-- What a reader must believe of card and rack through a run.
pub mod Ready
pub mod LiveAfter
