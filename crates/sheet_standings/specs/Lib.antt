-- Where the cells of a standing lie, and what they are.
pub mod Layout
-- Steps and completion on cells: of paths, of rings, and by the kind of the claim.
pub mod PathCells
pub mod RingCells
pub mod CellSystem
-- What a sheet may list.
pub mod Good
