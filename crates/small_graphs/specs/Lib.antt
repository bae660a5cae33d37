-- The numbers that the graphs are made of, relations as words, and the bytes of a graph.
pub mod Numbers
pub mod Relations
pub mod Graphs
