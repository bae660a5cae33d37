-- Where what stands in the memory of a graph.
pub mod Layout
-- What is read of a graph, and left in memory.
pub mod Reading
-- Promises between the functions of this crate.
pub mod inner
