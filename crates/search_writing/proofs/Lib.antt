-- One turn of the writing, by what is left.
pub mod Turns
-- What is left, and what the turn requires.
pub mod Stages
