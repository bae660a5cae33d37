-- What a graph's words say, and the tables of expressions.
pub mod Listed
pub mod Machine
