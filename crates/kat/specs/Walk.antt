-- Walks in a graph, and the guarded word of a walk: the atoms of its events and the relations of its steps.
-- Assumes nothing.
use Rattle.std.specs.Prelude.{ℕ}
use Rattle.kat.specs.Graph.{Graph}
use Rattle.kat.specs.Word.{Word, end, at}

-- steps from event to event ("Words")
pub data Walk (G : Graph) : G.Event → G.Event → Type 0 where
  stay : (x : G.Event) → Walk G x x
  go : {x y z : G.Event} (r : ℕ) → G.edge r x y → Walk G y z → Walk G x z

-- the word of a walk ("Words")
abbrev pub word_of : (G : Graph) {x y : G.Event} → Walk G x y → Word
word_of G (stay x) = end (G.atom x)
word_of G (go {x = x} r e p) = at (G.atom x) r (word_of G p)
