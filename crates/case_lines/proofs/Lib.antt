-- Laws of bytes that are put into memory, of the escapes, of the fields of a case, and of its line.
pub mod Putting
pub mod Stepping
pub mod FieldLaws
pub mod LineLaws
