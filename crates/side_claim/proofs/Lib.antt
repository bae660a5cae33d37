-- The sides in memory.
pub mod SidesInMemory
-- Where expressions stand among the codes of a query.
pub mod Starts
pub mod Endings
-- The two sides of any decision are built; those of the claim of a query, and of any statement of it; the limits of a decision.
pub mod Leaves
pub mod Sides
pub mod Claims
pub mod Statements
pub mod Limits
