-- Small laws.
pub mod Bools
pub mod Sets
pub mod Shapes
-- Languages, and walks in graphs.
pub mod Postfix
pub mod Fusion
pub mod Walks
pub mod Traces
-- Occurrence tables.
pub mod Ranges
pub mod Residuals
pub mod Letters
pub mod Runs
pub mod Decided
-- Rings.
pub mod Turns
pub mod Growing
pub mod Words
pub mod Prefixes
-- What can have been read of a prefix.
pub mod Ways
pub mod Read
pub mod ReadFrom
-- Tables of pairs.
pub mod Closure
-- What chains of iterators compute.
pub mod Chains
