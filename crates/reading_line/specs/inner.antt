-- The same line, of an answer of the code.
pub mod Answers
