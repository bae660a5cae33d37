-- The closure of columns, and what is sought in it.
pub mod Rounds
