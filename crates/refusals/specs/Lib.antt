-- The cause of each reason.
pub mod Causes
