-- The bytes of a small graph. (Document 01, "Sheet and graph bytes".)
-- Assumes nothing.
use Rattle.std.specs.Prelude.{ℕ, zero, suc, ◌/◌, ◌%◌, cond, List, [], ◌∷◌, ◌++◌}
use Rattle.small_graphs.specs.Relations.{bit}

-- the field of an event with this atom
abbrev pub event_field : ℕ → List ℕ
event_field atom = 1 ∷ 0 ∷ 1 ∷ atom ∷ []

-- the field of the edge of bit e of relation k
abbrev pub edge_field : ℕ → ℕ → List ℕ
edge_field k e = 2 ∷ 0 ∷ 3 ∷ k % 16 ∷ e / 8 % 8 ∷ e % 8 ∷ []

-- the fields of events
unfoldable pub event_fields : List ℕ → List ℕ
event_fields [] = []
event_fields (a ∷ rest) = event_field a ++ event_fields rest

-- the n numbers from i on
abbrev pub counted : ℕ → ℕ → List ℕ
counted i zero = []
counted i (suc n) = i ∷ counted (suc i) n

-- the fields of those edges of a relation whose bits are listed
unfoldable pub edges_among : ℕ → ℕ → List ℕ → List ℕ
edges_among k r [] = []
edges_among k r (e ∷ es) = cond (bit e r) (edge_field k e) [] ++ edges_among k r es

-- the fields of all edges of relation k, by from and to
abbrev pub edge_fields : ℕ → ℕ → List ℕ
edge_fields k r = edges_among k r (counted 0 64)

-- the fields of the edges of relations, numbered from k on
unfoldable pub relation_fields : ℕ → List ℕ → List ℕ
relation_fields k [] = []
relation_fields k (r ∷ rs) = edge_fields k r ++ relation_fields (suc k) rs

-- the bytes of a graph with events of these atoms and the edges of these relations
unfoldable pub graph_bytes : List ℕ → List ℕ → List ℕ
graph_bytes atoms rs = event_fields atoms ++ relation_fields 0 rs
