-- The laws of the copies that crates above cite.
pub mod LayoutLaws
pub mod CoverLaws
pub mod CopyLaws
pub mod FetchLaws
pub mod MoveLaws
pub mod StoreLaws
pub mod ContentsLaws
