-- The laws of the desk beside the plain queue.
mod HeldLaws
mod LineLaws
pub mod SteadyLaws
