-- Promises between the functions of the search.
pub mod inner
