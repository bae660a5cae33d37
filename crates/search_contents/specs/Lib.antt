-- Bytes at the start of a slice, and bytes put at a place of it.
pub mod Written
-- The field of a standing from its words.
pub mod FieldWords
