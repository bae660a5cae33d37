-- The expressions that the grammar reads are low.
pub mod LowTrees
-- Those of every line of a query are.
pub mod LowLines
