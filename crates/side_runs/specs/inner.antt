-- The items of a line run in memory.
pub mod Running
