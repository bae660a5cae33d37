-- The third demand, about the calls.
pub mod ThirdDemand
-- Promises between the functions of this crate.
pub mod inner
