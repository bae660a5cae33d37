-- Candidates one behind the other: what is fresh of them, and what a function adds to the memory.
pub mod Grow
pub mod Adding
-- One candidate: dropped, kept, or past the allowance.
pub mod Noting
-- The candidates in their order.
pub mod Candidates
-- One letter behind a place.
pub mod OneLetter
-- The loops over letters, atoms and places: what is left to note, noted from here on, is the whole noted from the start.
pub mod Turns
-- The letters left to try.
pub mod Letters
