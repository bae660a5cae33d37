-- The facts from what is known and built, and the limits.
pub mod Counted
