-- A word as two cells, and bytes as cells.
pub mod Halves
pub mod CellBytes
-- The same sheets pass where one kind of standing shows another.
pub mod PassingShown
-- Cells show the standings of the definition; the contents of a field are read as cells.
pub mod PathShown
pub mod FieldCells
pub mod PathRead
-- Rings: the cells and rows of a standing, steps, equality, completion, and reading.
pub mod RingRows
pub mod RingFits
pub mod RingParts
pub mod RingSteps
pub mod RingEqual
pub mod RingFinals
pub mod RingShown
pub mod RingRead
-- Both kinds of claim.
pub mod ByKind
