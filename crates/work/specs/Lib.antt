-- The work of a finish, worked out and not yet written.
pub mod PathWork
pub mod RemovalWork
