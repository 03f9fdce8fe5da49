-- What a reader must believe of the finish of a job: what is left, and when it is Damaged.
pub mod Finishes
