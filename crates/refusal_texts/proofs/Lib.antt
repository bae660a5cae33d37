-- The words of a cause that is known, and of a refusal, piece by piece.
pub mod Known
pub mod Pieces
