-- The memory that lists a graph.
pub mod ListedWords
-- The contents of an event and of an edge.
pub mod Contents
-- The field at a place.
pub mod Fields
-- The fields read so far.
pub mod SoFar
