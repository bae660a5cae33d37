-- Bytes put into memory, one after the other.
pub mod Puts
