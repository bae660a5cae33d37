-- The functions.
pub mod Narrowed
pub mod ClosedSets
-- What they give of a query.
pub mod NarrowedSets
pub mod RelationSets
pub mod Removed
