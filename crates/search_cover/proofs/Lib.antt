-- Rounds on columns.
pub mod Rounds
-- What is sought in the closed table.
pub mod Sought
-- The atom that completes a word.
pub mod Finals
