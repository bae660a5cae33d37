-- Tables in memory, and one code on them.
pub mod Places
pub mod Steps
