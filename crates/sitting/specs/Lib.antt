-- What a reader must believe of a sitting at the desk.
pub mod Sitting
pub mod Run
