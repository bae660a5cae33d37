-- What the judge answers.
pub mod Answers
-- What an answer means.
pub mod Meanings
-- Promises between the functions of this crate.
pub mod inner
