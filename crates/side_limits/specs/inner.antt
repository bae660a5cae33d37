-- Sums that stop at 1,000.
pub mod CappedSums
