-- What a passing sheet is evidence of.
pub mod Evidence
