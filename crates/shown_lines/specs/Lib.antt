-- What a reader must believe of a printed line: the bytes of some numbers, and of a verdict.
pub mod Shown
