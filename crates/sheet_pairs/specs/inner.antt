-- The rows of N as they are changed.
pub mod Rows
