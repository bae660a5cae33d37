-- What each code counts.
pub mod Tally
-- What the expressions at their places count.
pub mod Places
-- The sizes of both sides of a decision, and the limits.
pub mod Sizes
-- Promises between the functions of this crate.
pub mod inner
