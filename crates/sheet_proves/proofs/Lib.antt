-- Where standings lie, and what each way through the functions says; the order in which letters are tried does not matter; what the code says is
-- what the definition says.
pub mod Places
pub mod Ways
pub mod Order
pub mod Passes
