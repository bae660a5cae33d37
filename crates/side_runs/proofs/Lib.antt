-- What items do.
pub mod Performed
-- Where expressions stand, and what executing them builds.
pub mod PlacedItems
pub mod TreeBuilds
pub mod Executed
-- Items run in memory.
pub mod Running
pub mod RunningAll
-- What a machine does that builds nothing.
pub mod Unbuilt
