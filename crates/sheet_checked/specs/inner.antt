-- The answer to a sheet from its part.
pub mod Ended
