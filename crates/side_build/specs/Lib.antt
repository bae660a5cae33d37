-- What is built of a query.
pub mod Built
