-- Bytes are read as words as document 01 reads them, and those that are a word pass where they refute on cells. A word is taken two bytes at a
-- time.
pub mod WordsRead
pub mod Refuted
mod Steps
