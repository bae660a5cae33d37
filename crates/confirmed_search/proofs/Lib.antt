-- What the sheet of an answer passes as.
pub mod Passing
-- The third demand.
pub mod ThirdDemand
-- An outcome that the check of its sheet keeps.
pub mod Confirmed
