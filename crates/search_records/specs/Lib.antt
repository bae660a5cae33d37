-- What stands in the records of a path claim's standings.
pub mod Records
-- The same, as rows of four numbers.
pub mod Rows
