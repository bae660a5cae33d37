-- What was told between two places, and one name or word.
pub mod Told
pub mod Outcomes
pub mod Words
-- Chains of one operator, the loop that reads them, and brackets.
pub mod Chains
pub mod Loops
pub mod Bracketed
pub mod Rounds
-- The readers of T.
pub mod Tests
