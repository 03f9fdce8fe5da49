-- Laws of demand 3 that crates above cite.
pub mod LeavingLaws
pub mod DressLaws
pub mod RoundLaws
pub mod RequestLaws
pub mod TwinLaws
pub mod ThereLaws
pub mod DealLaws
pub mod MeetLaws
pub mod AgreeLaws
pub mod Demand3
pub mod RoomLaws
pub mod Sample
