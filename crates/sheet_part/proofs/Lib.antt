-- What was read and tested, as document 01 reads and tests it.
pub mod Answers
