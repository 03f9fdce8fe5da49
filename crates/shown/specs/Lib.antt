-- What card and fetched words show, in scratches.
pub mod WayRoom
pub mod PathShown
pub mod PairShown
