-- Ranges of numbers.
pub mod Upto
-- Places past the end of a table.
pub mod Places
-- The table of a side shows its expression, and a word a set of occurrences.
pub mod Tables
pub mod OccurrenceWords
-- What a word has where it is read from, column by column.
pub mod Joined
-- The letters of a decision, and one kind of standing that shows another.
pub mod LettersOf
pub mod Shows
-- What a letter reads next, and the turns of a ring.
pub mod Moves
pub mod Turns
-- What the tests and the loops of code say of the definitions' tests.
pub mod Tests
pub mod Loops
-- Alike atoms by the tables are alike by the expressions, and the lowest of them are those that are kept.
pub mod AlikeRows
pub mod LowestAlike
