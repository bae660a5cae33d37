-- The letters by the masks.
pub mod Letters
-- The verdict over them.
pub mod Verdicts
