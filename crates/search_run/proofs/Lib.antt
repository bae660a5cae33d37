-- The verdict of a decision is that on words, and so is its answer.
pub mod ByWords
pub mod Answers
-- The memory that is cleared.
pub mod Cleared
-- What the levels find, and that what is reported of it is the end of document 01's search.
pub mod Levels
pub mod Finished
-- The ways out of the search on a decision.
pub mod Ways
-- One run of the search.
pub mod OneRun
-- The run and the ways out over lent records.
pub mod OverRecords
