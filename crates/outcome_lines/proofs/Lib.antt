-- The word in a sheet, the result with more records, the line of an outcome, and its sheet.
pub mod WordInSheet
pub mod MoreRecords
pub mod OutcomeLines
pub mod LineLength
pub mod Sheets
