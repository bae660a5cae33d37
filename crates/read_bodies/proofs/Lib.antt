-- The next word of a line.
pub mod NextWords
-- An E or a T with a code behind it; the two sides of an inclusion.
pub mod Parts
pub mod Sides
-- The body of each kind of line.
pub mod Bodies
