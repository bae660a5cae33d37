-- What each way through the functions says.
pub mod Ways
