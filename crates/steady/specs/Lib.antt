-- What a reader must believe of the desk beside the plain queue.
pub mod Steady
