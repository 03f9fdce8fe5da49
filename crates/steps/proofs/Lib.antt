-- The laws of what the desk does with a line that crates above cite.
pub mod AskedLaws
pub mod SizeLaws
