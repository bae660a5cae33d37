-- A field at a place of the bytes; numbers of four bytes.
pub mod Fields
pub mod Cells
