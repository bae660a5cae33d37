-- The lines of a text, and the name that a line declares.
pub mod Lines
pub mod inner
