-- What stands in the memory of standings, and the entries that it keeps.
pub mod Store
