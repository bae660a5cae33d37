-- The machine that builds a table from codes.
pub mod Machine
