-- Words joined into columns.
pub mod Columns
-- The standing that the columns are.
pub mod Standing
