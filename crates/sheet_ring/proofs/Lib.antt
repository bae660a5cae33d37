-- The rows of M; the cells of a standing, and that they have four bytes.
pub mod Rows
pub mod Standing
