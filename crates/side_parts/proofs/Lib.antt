-- The machine in memory.
pub mod MachineInMemory
-- What a machine builds.
pub mod Builds
pub mod BuildsLeaves
pub mod BuildsJoined
pub mod BuildsIterated
pub mod BuiltAlone
-- What a machine does that builds nothing.
pub mod Unbuilt
