-- Laws of card and rack through a run that crates above cite.
pub mod CallLaws
pub mod FinishLaws
pub mod RackLaws
pub mod FinishedLaws
pub mod EndLaws
