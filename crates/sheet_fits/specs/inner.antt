-- Rows of M and of N; a verdict, and a standing that may be listed next.
pub mod Rows
pub mod Steps
