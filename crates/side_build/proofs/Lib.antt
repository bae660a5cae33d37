-- What is built, put together.
pub mod Assembled
-- What is built is what document 01 says: of any decision, and of the claim of a query.
pub mod AnyDecision
pub mod Decided
