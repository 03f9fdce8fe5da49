-- What a reader must believe of a request: when it is refused, and what it asks of the tree.
pub mod Tables
pub mod Job
