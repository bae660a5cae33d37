-- Sets of atoms, and what the codes of a test give.
pub mod Atoms
pub mod Tests
-- Expressions with one occurrence.
pub mod Single
