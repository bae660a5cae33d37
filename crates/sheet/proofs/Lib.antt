-- The evidence that a passing sheet is.
pub mod Evidence
