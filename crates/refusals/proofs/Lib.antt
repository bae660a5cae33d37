-- One cause, one reason.
pub mod Causes
