-- The answer of what the search finds.
pub mod Found
-- What holds while its sheet is written.
pub mod Stands
