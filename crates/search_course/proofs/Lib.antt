-- What a level completes.
pub mod Completed
-- From level to level.
pub mod Advance
-- From phase to phase.
pub mod Phases
-- The first turn.
pub mod FirstTurn
