-- One level of a path: its least record, and its children.
pub mod LevelLaws
