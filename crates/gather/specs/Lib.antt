-- What card and fetched words show of a way, and how a scratch is loaded.
pub mod Shown
pub mod Laid
