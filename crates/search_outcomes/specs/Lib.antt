-- What a search answers, and what it leaves in lent memory.
pub mod Outcomes
-- What the outcome is, by the words of the claim.
pub mod ByWords
-- Promises between the functions of the search.
pub mod inner
