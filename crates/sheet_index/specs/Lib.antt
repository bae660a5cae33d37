-- The index by slots, and what it says of the standings that are listed.
pub mod Index
