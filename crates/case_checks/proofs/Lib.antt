-- A byte put back.
pub mod Restored
