-- Laws of Damaged that crates above may use, and what is looked at at the root.
pub mod DamagedLaws
pub mod FetchedLaws
pub mod OnceLaws
pub mod Found
pub mod Empty
pub mod RootLaws
