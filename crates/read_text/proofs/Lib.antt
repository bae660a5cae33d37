-- The lines of a text.
pub mod TextLines
-- The answer, rule by rule, and the loop over the lines.
pub mod Answers
pub mod Lines
