-- The judge over the codes of a query, and what it finds of a claim.
pub mod Machine
pub mod Outcome
