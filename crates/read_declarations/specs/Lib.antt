-- The state between two lines, and what a line does to it.
pub mod State
-- Promises between the functions of this crate.
pub mod inner
