-- What it is for a graph to meet a query's lines and for its claim to hold, by the relational meaning. (Document 01, "Sheet and graph
-- bytes", last paragraph.) This is for every labelled graph, of whatever size; `Judgement.antt` computes it for a finite one.
-- Assumes nothing.
use Rattle.std.specs.Prelude.{ℕ, ◌<◌, ◌≡◌, true, length}
use Rattle.kat.specs.Lists.{In}
use Rattle.kat.specs.Graph.{Graph, Rel}
use Rattle.notation.specs.Tree.{Tree, Claim, includes, empty, irreflexive, Line, test_line, rel_line, let_line, never_line, within_line, closed_line, assume_empty, assume_irreflexive, claim_line}
use Rattle.notation.specs.Query.{Query, tests, relations, index_of, holds, atoms}
use Rattle.notation.specs.Sides.{meant, single}

module _ (G : Graph) (q : Query) where
  -- an execution graph of the query: each event has one of its atoms, each edge is of one of its relations ("Sheet and graph bytes")
  abbrev pub Execution : Type 0
  Execution = ((x : G.Event) → G.atom x < atoms q) × ((r : ℕ) (x y : G.Event) → G.edge r x y → r < length (relations q))

  -- the pairs of an expression as written, where relations mean the graph's edges ("Sheet and graph bytes")
  abbrev pub Related : Tree → G.Event → G.Event → Type 0
  Related e x y = Rel G (meant q (single q) e) x y

  -- the graph meets the line ("Sheet and graph bytes")
  abbrev pub Meets : Line → Type 0
  Meets (test_line n) = Unit {0}
  Meets (rel_line n) = Unit {0}
  Meets (let_line n e) = Unit {0}
  Meets (never_line t) = (x : G.Event) → holds (tests q) t (G.atom x) ≡ true → ⊥
  Meets (within_line n t u) =
      (x y : G.Event) → G.edge (index_of n (relations q)) x y
      → (holds (tests q) t (G.atom x) ≡ true) × (holds (tests q) u (G.atom y) ≡ true)
  Meets (closed_line n) =
      (x y z : G.Event) → G.edge (index_of n (relations q)) x y → G.edge (index_of n (relations q)) y z
      → G.edge (index_of n (relations q)) x z
  Meets (assume_empty e) = (x y : G.Event) → Related e x y → ⊥
  Meets (assume_irreflexive e) = (x : G.Event) → Related e x x → ⊥
  Meets (claim_line c) = Unit {0}

  -- the graph meets all lines ("Sheet and graph bytes")
  abbrev pub MeetsAll : Type 0
  MeetsAll = (l : Line) → In l q → Meets l

  -- the claim holds in the graph ("Sheet and graph bytes")
  abbrev pub ClaimHolds : Claim → Type 0
  ClaimHolds (includes e f) = (x y : G.Event) → Related e x y → Related f x y
  ClaimHolds (empty e) = (x y : G.Event) → Related e x y → ⊥
  ClaimHolds (irreflexive e) = (x : G.Event) → Related e x x → ⊥
