-- Where the parts of a standing are among its words.
pub mod Layout
-- Standings as lists of machine words: of paths, of rings, and by the kind of the claim.
pub mod PathWords
pub mod RingWords
pub mod Systems
-- The verdict over chosen letters.
pub mod Over
-- The lowest atom.
pub mod First
