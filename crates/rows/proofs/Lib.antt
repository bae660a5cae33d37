-- Rounds close a table.
pub mod Rounds
-- Each row by its number and itself.
pub mod EachRow
-- The events whose atom is in a set.
pub mod Events
-- The lowest pair and the lowest loop.
pub mod Sought
-- What tables show of relations.
pub mod Shown
pub mod Lowest
