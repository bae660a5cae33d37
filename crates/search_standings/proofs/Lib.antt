-- The places of a standing's parts by name.
pub mod LayoutNamed
-- The verdict over chosen letters, and of standings that show others.
pub mod Over
pub mod VerdictShown
pub mod GoodStandings
-- The lowest atom.
pub mod First
-- Words show the standings of the definition.
pub mod PathShown
-- Ring standings on words.
pub mod RingLayout
pub mod RingColumns
pub mod RingShown
pub mod RingEqual
pub mod RingRows
pub mod RingFinals
pub mod RingVerdict
-- Chains over ranges of numbers.
pub mod Chains
