-- Changes of a table, one after another; what stands at a place behind them.
pub mod Walks
pub mod EachNumber
pub mod Changes
pub mod Marks
pub mod ClearTables
-- The bits of a range.
pub mod RangeSets
-- The table of a side shows its expression: while it is built, and in the end.
pub mod Shows
pub mod ShowsJoined
pub mod ShowsRepeated
pub mod SideTable
