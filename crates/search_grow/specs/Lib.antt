-- The letters that are tried, by masks.
pub mod Masks
-- The entries that the memory keeps in the course of the search, and what each function adds to them.
pub mod Kept
