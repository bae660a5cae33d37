-- Rounds on rows, and what is sought in the closed table; the closed rows are the turns; what completes a word.
pub mod Rounds
pub mod Sought
pub mod Turns
pub mod Finals
