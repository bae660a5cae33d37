-- Whether the standings listed prove, on cells.
pub mod Proves
-- Promises between the functions of this crate.
pub mod inner
