-- Where the word of a refuted sheet stands.
pub mod WordInSheet
-- The call by the answer of the sheet check.
pub mod Calls
-- From the reading of the query to the graph.
pub mod Reading
-- A drawn graph breaks the claim.
pub mod Breaking
