-- What a reader must believe of a good heap.
pub mod Good
pub mod Live
pub mod Heap
