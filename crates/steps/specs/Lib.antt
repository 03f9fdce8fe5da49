-- What a reader must believe of what the desk does with a line.
pub mod Step
