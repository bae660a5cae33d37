-- The pieces of a graph put one after another, and their lengths; relations; and that the bytes are those of the drawn graph.
pub mod Pieces
pub mod Relations
pub mod Drawn
