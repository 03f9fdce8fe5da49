-- What a reader must believe of the look at what was fetched: what it leaves, and what it tells.
pub mod Look
