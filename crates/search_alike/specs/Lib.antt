-- Which atoms are alike, by the tables, and the masks of those to try.
pub mod Masks
