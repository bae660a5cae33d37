-- What a query is answered, and what is left in memory.
pub mod Answer
-- What is given of a decision.
pub mod Decided
-- Promises between the functions of this crate.
pub mod inner
