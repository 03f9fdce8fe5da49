-- What a reader must believe of the desk's lines.
pub mod Says
