-- The memory is enough.
pub mod Rooms
-- The masks and the letters of level 1.
pub mod Tried
