-- The bytes of a drawn graph by the numbers of its word and the rows of each relation: the events, then the edges by relation, from and to.
-- (Document 01, "Words", Drawn graph, and "Sheet and graph bytes".) What is drawn are the rows of `draw_rows`.
-- Assumes nothing.
use Rattle.std.specs.Prelude.{ℕ, List, ◌++◌}
use Rattle.kat.specs.Lists.{upto}
use Rattle.claims.specs.GraphWriting.{joined}
use Rattle.draw_bytes.specs.Fields.{events_bytes, rows_bytes}

-- the edges of relation r among n events ("Sheet and graph bytes")
unfoldable pub relation_bytes : ℕ → (ℕ → List ℕ) → ℕ → List ℕ
relation_bytes n rows r = rows_bytes r n (rows r)

-- the edges of all relations ("Sheet and graph bytes")
unfoldable pub edges_bytes : ℕ → (ℕ → List ℕ) → ℕ → List ℕ
edges_bytes n rows relations = joined (relation_bytes n rows) (upto 0 relations)

-- the graph of n events drawn from the word with these numbers ("Sheet and graph bytes")
unfoldable pub bytes_of : List ℕ → ℕ → (ℕ → List ℕ) → ℕ → List ℕ
bytes_of bs n rows relations = events_bytes bs n ++ edges_bytes n rows relations
