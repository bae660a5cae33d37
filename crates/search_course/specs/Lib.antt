-- What a level completes, and what the search answers.
pub mod Answers
-- The search as turns, one candidate a turn: what holds from turn to turn, and the number that falls.
pub mod Turns
