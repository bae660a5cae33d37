-- "Standings": path and ring as they are computed, and what their fields say; levels, the verdict.
pub mod Standings
pub mod JustRead
pub mod Search
-- "Sheet and graph bytes": what a sheet says, and which sheets pass.
pub mod Passing
-- Letters that the search and the check of a sheet may leave out.
pub mod Thin
pub mod Alike
-- What a verdict says, the order of words and prefixes, and what every kind of standing keeps to.
pub mod Verdicts
pub mod Orders
pub mod Lawful
-- Which proved sheets pass, in plain words.
pub mod Closed
