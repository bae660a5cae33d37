-- A program in memory.
pub mod Program
-- What a machine makes of the items of a line; lets expanded.
pub mod Performing
pub mod Execution
-- Promises between the functions of this crate.
pub mod inner
