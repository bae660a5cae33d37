-- The rows of N joined, row by row.
pub mod Rows
-- The pairs that open, one by one.
pub mod Opened
