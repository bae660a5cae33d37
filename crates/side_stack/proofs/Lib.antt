-- Parts in memory.
pub mod PartsInMemory
