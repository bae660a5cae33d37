-- The words of the graph that is judged.
pub mod Closing
