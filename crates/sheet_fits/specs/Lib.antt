-- Cells of four bytes.
pub mod Small
-- Promises between the functions of the sheet check.
pub mod inner
