-- The escapes of a line, the fields of a case, and the next case of the input.
pub mod Escapes
pub mod Fields
pub mod Lines
