-- The closure of rows, and what is sought in it.
pub mod Rounds
