-- A memory by what stands at each place; and cleared.
pub mod Words
pub mod Zeros
-- A change for each number of a range.
pub mod Walks
