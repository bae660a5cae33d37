-- Words joined into columns.
pub mod Columns
