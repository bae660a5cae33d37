-- Codes with what they need.
pub mod Items
-- Promises between the functions of this crate.
pub mod inner
