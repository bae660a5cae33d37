-- The codes of a query.
pub mod Codes
-- What a walk over them keeps of the lets.
pub mod Lets
