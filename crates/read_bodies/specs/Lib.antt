-- What the readers of a line's body promise.
pub mod Bodies
-- Promises between the functions of this crate.
pub mod inner
