-- What a reader must believe of a finish: what it leaves, and when it is Damaged.
pub mod Left
pub mod Settled
pub mod Room
