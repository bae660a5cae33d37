-- The prefix of a place, by parents.
pub mod PrefixIn
-- One turn of the writer, and how many bytes there are.
pub mod Steps
pub mod Lengths
-- The sheet from the memory is the sheet of the verdict.
pub mod WordNumbers
pub mod SheetKept
pub mod SheetShown
