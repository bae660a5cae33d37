-- The line of an outcome.
pub mod Shown
-- The sheet of an outcome.
pub mod Sheets
