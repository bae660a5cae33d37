-- What is reported.
pub mod Reported
-- The outcome by the words.
pub mod ByWords
-- What holds while a sheet is written.
pub mod Found
