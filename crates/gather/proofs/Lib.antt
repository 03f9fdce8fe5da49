-- Laws of a scratch: what crates above may use, and what the loops that load one have done so far.
pub mod LaidLaws
pub mod ShownLaws
pub mod LoadedLaws
pub mod Loading
pub mod RootLaws
