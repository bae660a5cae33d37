-- Words that are no names, and the table of names.
pub mod Keys
-- Slips of names.
pub mod Slips
-- The words that are no names.
pub mod Keywords
