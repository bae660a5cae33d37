-- A graph read so far, and one field more.
pub mod Steps
