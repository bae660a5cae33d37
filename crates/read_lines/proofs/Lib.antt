-- Lines that are taken, and the first word of a line.
pub mod Taken
pub mod Sorts
pub mod FirstWords
-- The kind of a line by its first word.
pub mod FoundKinds
