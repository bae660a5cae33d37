-- The lent memory is enough.
pub mod Memory
-- The letters that are tried, and the verdict on words.
pub mod Tried
