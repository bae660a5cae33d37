-- The fields of events, and of the edges of a relation; the bytes of a drawn graph, by the numbers of its word.
pub mod Fields
pub mod Bytes
