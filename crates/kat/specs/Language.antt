-- The language of an expression. A guarded word is a graph: its events are its places, each named by the part of the word that
-- begins there, and an edge goes from each place to the next. The language of E is the relational meaning of E on that graph,
-- from the word to its end; `proofs/Fusion.antt` shows that it is the textbook language, by fusion products (`Fusion.antt`).
-- Assumes nothing.
use Rattle.std.specs.Prelude.{ℕ, ◌≡◌}
use Rattle.kat.specs.Expr.{Expr}
use Rattle.kat.specs.Graph.{Graph, Rel}
use Rattle.kat.specs.Word.{Word, end, at, first, last}

-- relation r leads from the place u to the place v ("Words")
abbrev pub Leads : ℕ → Word → Word → Type 0
Leads r (end a) v = ⊥
Leads r (at a s u) v = (s ≡ r) × (u ≡ v)

-- the graph of all places of words ("Words")
abbrev pub places : Graph
places = record { Event = Word; atom = first; edge = Leads }

-- w is a word of E ("Words")
abbrev pub Lang : Expr → Word → Type 0
Lang E w = Rel places E w (end (last w))
