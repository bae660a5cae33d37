-- The sheet of a verdict from the memory of standings.
pub mod SheetWords
