-- Promises between the functions of this crate.
pub mod inner
