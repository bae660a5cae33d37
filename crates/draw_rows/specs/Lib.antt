-- The edges of a relation as rows.
pub mod Rows
