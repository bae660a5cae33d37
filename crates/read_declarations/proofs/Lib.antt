-- The table of names with a name more.
pub mod NameTable
pub mod Declared
-- The end of a line, and its fate.
pub mod LineEnds
pub mod Fates
-- Lines that declare a name.
pub mod Declaring
