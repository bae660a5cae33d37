-- The reading of document 01 in two steps, the limits, and the answer.
pub mod Readings
pub mod Limits
pub mod Outcomes
-- The decision of an accepted query.
pub mod Asked
