-- The letters of one relation.
pub mod Letters
