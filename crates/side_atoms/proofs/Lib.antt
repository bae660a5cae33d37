-- Sets of atoms.
pub mod Atoms
-- The stack of sets, one code, and the codes of a T.
pub mod Stack
pub mod Room
pub mod TestSteps
pub mod TestCodes
-- Expressions with one occurrence.
pub mod Singles
