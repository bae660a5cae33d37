-- The cells of a standing.
pub mod Four
-- What completes.
pub mod Finals
