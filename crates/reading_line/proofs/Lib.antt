-- The line of an answer is that of the reading, and how long it is.
pub mod Shown
pub mod Short
