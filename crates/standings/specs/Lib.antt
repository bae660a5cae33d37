-- Sets of occurrences, one letter on, by the table of a side.
pub mod Steps
-- Atoms at which the same occurrences come next.
pub mod Alike
