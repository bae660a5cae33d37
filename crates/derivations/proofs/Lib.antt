-- The rules of the borrow checker, on derivations.
pub mod Derive
-- Contracts of plain facts.
pub mod Plain
