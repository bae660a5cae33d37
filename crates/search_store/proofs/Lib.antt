-- One standing in the memory: read, compared, and put at its place.
pub mod Standing
-- A standing by its record.
pub mod Loaded
-- One standing more: what stands where, and what does not change.
pub mod Appended
-- The entries that the memory keeps.
pub mod Held
