-- Rows by steps.
pub mod Steps
-- The tables of all relations.
pub mod Tables
-- Which relations are closed.
pub mod ClosedLines
-- What they show of the drawn graph.
pub mod Drawn
