-- Laws of the heap on buckets that crates above cite.
pub mod JoinLaws
pub mod PathLaws
pub mod WorkLaws
pub mod ShownLaws
pub mod FetchLaws
pub mod PathFetch
pub mod PathStore
pub mod Removal
pub mod HalvesLaws
pub mod PairWork
pub mod PairFetch
pub mod PairStore
pub mod Insertion
pub mod Pins
