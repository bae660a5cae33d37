-- The reading while it goes on.
pub mod Steps
