-- One code: the ends of lines.
pub mod Ends
-- What the words of a graph show.
pub mod Graphed
-- Which lines are broken.
pub mod Broken
-- Expressions: a table more.
pub mod Added
pub mod Expressions
-- The judge behind each line.
pub mod InLines
pub mod Lines
pub mod Limits
-- All lines.
pub mod Judged
-- The functions: the loop over the codes.
pub mod Running
