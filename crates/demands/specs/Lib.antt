-- What a reader must believe of the demands: the plain queue, and demand 2.
pub mod Queue
pub mod Says
pub mod Refusals
pub mod Sorted
pub mod Rounds
pub mod Demand2
pub mod Plainly
pub mod Table
