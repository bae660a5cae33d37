-- Promises between the functions of the reading.
pub mod Between
