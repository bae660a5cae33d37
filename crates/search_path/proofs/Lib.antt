-- The words of a standing.
pub mod Two
-- The lowest atom of a set that passes a test.
pub mod Firsts
