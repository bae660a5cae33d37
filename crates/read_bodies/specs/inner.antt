-- A code behind what was read, and the limits of a `within` line.
pub mod Parts
