-- The line of what the reader says of a query.
pub mod Shown
pub mod inner
