-- The two sides of a decision, from a program.
pub mod Sides
