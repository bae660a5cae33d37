-- The fields of a drawn graph: the events of a word, with the numbers at even places, and the edges of a relation by from and to, from rows of sets.
-- (Document 01, "Sheet and graph bytes".)
-- Assumes nothing.
use Rattle.std.specs.Prelude.{ℕ, ◌*◌, List, get_or}
use Rattle.kat.specs.Lists.{upto}
use Rattle.claims.specs.GraphWriting.{joined, event_field, edge_field, edge_of}
use Rattle.bits.specs.Sets.{members}

-- the first n events of a word ("Sheet and graph bytes")
unfoldable pub events_bytes : List ℕ → ℕ → List ℕ
events_bytes bs n = joined (λ i. event_field (get_or bs (2 * i) 0)) (upto 0 n)

-- the edges of relation r from event x, to the members of a set ("Sheet and graph bytes")
unfoldable pub row_bytes : ℕ → ℕ → ℕ → List ℕ
row_bytes r x s = joined (λ y. edge_field (edge_of r x y)) (members s)

-- the edges of relation r, by the rows of the first n events ("Sheet and graph bytes")
unfoldable pub rows_bytes : ℕ → ℕ → List ℕ → List ℕ
rows_bytes r n rows = joined (λ x. row_bytes r x (get_or rows x 0)) (upto 0 n)
