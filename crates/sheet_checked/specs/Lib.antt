-- What the sheet check answers.
pub mod Checks
-- Promises between the functions of this crate.
pub mod inner
