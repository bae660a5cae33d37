-- The first of a memory zero.
pub mod Cleared
-- Records as rows.
pub mod Rows
