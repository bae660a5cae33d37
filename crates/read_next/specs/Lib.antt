-- What stands next.
pub mod Next
-- Codes written.
pub mod Written
