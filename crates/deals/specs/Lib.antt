-- What a reader must believe of demand 3: what the rack sees, two sequences of the same kinds, the dealing, and the statement.
pub mod Trace
pub mod Sequences
pub mod Dealing
pub mod Demand3
