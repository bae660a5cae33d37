-- The walk, and what a code counts.
pub mod Walk
pub mod Weights
-- The table of what each code counts, and the sums over the expressions at their places.
pub mod Tables
pub mod PlaceSums
-- Expressions, lets and lines.
pub mod Expressions
pub mod Environment
pub mod Lines
pub mod Counts
pub mod Within
pub mod PlacedCounts
-- The test of the limits.
pub mod Test
-- What is counted of a decision is what document 01 counts.
pub mod Counted
