-- Postfixes.
pub mod PostfixRuns
-- The readers of E.
pub mod Trees
