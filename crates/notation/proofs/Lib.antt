-- The cases.
pub mod Evaluate
pub mod CasesOfLimits
pub mod CasesOfSides
-- Small laws.
pub mod Results
-- The notation of lines.
pub mod Fuel
-- The order of refusals.
pub mod FirstFault
pub mod LineOrder
pub mod ClaimLast
pub mod Decisions
pub mod Precedence
-- What is counted of a side.
pub mod Counts
-- A claim under all lines.
pub mod Under
