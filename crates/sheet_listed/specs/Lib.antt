-- Which standings have to be listed, by the letters that are tried.
pub mod Listed
-- Promises between the functions of this crate.
pub mod inner
