-- Relations on at most 64 events as rows of sets.
pub mod Rows
-- What a number says of a claim.
pub mod Outcomes
