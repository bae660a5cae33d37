-- What the reader answers, up to refusal 7.
pub mod Reading
-- Promises between the functions of this crate.
pub mod inner
