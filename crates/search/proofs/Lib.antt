-- The two ways on from the reading of the query.
pub mod Asking
