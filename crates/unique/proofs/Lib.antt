-- Uniqueness: the law, and then the functions of each crate.
pub mod OneLaws
pub mod CardLaws
pub mod RackLaws
pub mod DriverLaws
pub mod LentLaws
pub mod LenderLaws
pub mod DeskLaws
pub mod SittingLaws
pub mod LineLaws
pub mod RecordLaws
pub mod ScratchLaws
pub mod JudgeLaws
