-- Labelled graphs and the relational meaning of an expression. (Document 01, "Sheet and graph bytes", last paragraph.) A graph
-- has events, an atom for each, and pairs for each relation; a finite graph is given by the list of its events' atoms and a test
-- for its edges, and may have any number of events.
-- Assumes nothing.
use Rattle.std.specs.Prelude.{ℕ, ◌≡◌, ◌⊎◌, Bool, true, List, T, ltb, length, get_or}
use Rattle.kat.specs.Expr.{Expr, step, test, alt, seq, plus}

-- events, an atom each, and pairs for each relation ("Sheet and graph bytes")
pub record Graph : Type 1 where
  pub Event : Type 0
  pub atom : Event → ℕ
  pub edge : ℕ → Event → Event → Type 0  -- relation, from, to

-- the transitive closure of a relation: one or more of its pairs in a row ("Sheet and graph bytes")
pub data Plus {A : Type 0} (R : A → A → Type 0) : A → A → Type 0 where
  once : {x y : A} → R x y → Plus R x y
  more : {x y z : A} → R x y → Plus R y z → Plus R x z

-- the pairs of events that E relates in G ("Sheet and graph bytes")
abbrev pub Rel : (G : Graph) → Expr → G.Event → G.Event → Type 0
Rel G (step s) x y = (r : ℕ) × (s r ≡ true) × G.edge r x y
Rel G (test s) x y = (x ≡ y) × (s (G.atom x) ≡ true)
Rel G (alt e f) x y = Rel G e x y ⊎ Rel G f x y
Rel G (seq e f) x y = (z : G.Event) × Rel G e x z × Rel G f z y
Rel G (plus e) x y = Plus (Rel G e) x y

-- a finite graph: event number x has the x-th atom of the list, and relation r goes from x to y where the test says so ("Sheet and graph bytes")
pub record Finite : Type 0 where
  pub atoms : List ℕ
  pub edges : ℕ → ℕ → ℕ → Bool

-- a finite graph as a graph: its events are the numbers below its size ("Sheet and graph bytes")
abbrev pub graph : Finite → Graph
graph F =
    record {
      Event = (x : ℕ) × T (ltb x (length F.atoms));
      atom = λ x. get_or F.atoms x.0 0;
      edge = λ r x y. F.edges r x.0 y.0 ≡ true;
    }
