-- Sets, and tables of sets.
pub mod Sets
-- What a walk of a set has still to give.
pub mod Walk
