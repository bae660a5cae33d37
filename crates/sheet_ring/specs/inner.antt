-- The cells before the rows.
pub mod Head
