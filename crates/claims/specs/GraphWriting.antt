-- The bytes of a graph, what holds of a graph that is read, and which field is the first wrong one, in plain words. (Document 01, "Sheet and
-- graph bytes" and refusal 12.)
-- Assumes nothing.
use Rattle.std.specs.Prelude.{ℕ, ◌+◌, ◌≤◌, ◌<◌, ◌≡◌, Bool, length}
use mathlib.Core.List.{List, [], ◌∷◌, ◌++◌, map, flat_map}
use Rattle.kat.specs.Lists.{In, upto, filter}
use Rattle.kat.specs.Graph.{Finite}
use Rattle.claims.specs.Fields.{field, FirstWrong}
use Rattle.verdicts.specs.Verdicts.{Distinct}
use Rattle.claims.specs.GraphBytes.{Edge, Listed, Ranges}
use Rattle.notation.specs.Query.{atoms, relations}

-- one after the other, what f makes of each
abbrev pub joined : {A : Type 0} → (A → List ℕ) → List A → List ℕ
joined f [] = []
joined f (x ∷ xs) = f x ++ joined f xs

-- the bytes of an event, of an edge, and of a graph
abbrev pub event_field : ℕ → List ℕ
event_field a = field 1 (a ∷ [])

abbrev pub edge_field : Edge → List ℕ
edge_field e = field 2 (e.relation ∷ e.from ∷ e.to ∷ [])

abbrev pub graph_bytes : Listed → List ℕ
graph_bytes L = joined event_field L.atoms ++ joined edge_field L.edges

-- what holds of the events and edges that were read
pub record WellListed (R : Ranges) (L : Listed) : Type 0 where
  pub atoms_known : (a : ℕ) → In a L.atoms → a < R.atoms
  pub edges_known : (e : Edge) → In e L.edges → e.relation < R.relations
  pub from_event : (e : Edge) → In e L.edges → e.from < length L.atoms
  pub to_event : (e : Edge) → In e L.edges → e.to < length L.atoms
  pub at_most_64 : length L.atoms ≤ 64
  pub once_each : Distinct L.edges

-- how many fields a graph has
abbrev pub graph_fields : Listed → ℕ
graph_fields L = length L.atoms + length L.edges

-- the bytes are a graph
pub record IsGraph (R : Ranges) (bs : List ℕ) : Type 0 where
  pub listed : Listed
  pub good : WellListed R listed
  pub bytes : bs ≡ graph_bytes listed

-- the bytes begin with n good fields
pub record GoodGraphFields (R : Ranges) (bs : List ℕ) (n : ℕ) : Type 0 where
  pub listed : Listed
  pub rest : List ℕ
  pub good : WellListed R listed
  pub fields : graph_fields listed ≡ n
  pub bytes : bs ≡ graph_bytes listed ++ rest

-- field k of a graph is its first wrong one: cut, of a wrong tag, an event after an edge, of a wrong length, a number too large, a 65th
-- event, an edge repeated
abbrev pub WrongGraphField : Ranges → List ℕ → ℕ → Type 0
WrongGraphField R bs = FirstWrong (GoodGraphFields R bs) (IsGraph R bs)

-- the edge of relation r from x to y
abbrev pub edge_of : ℕ → ℕ → ℕ → Edge
edge_of r x y = record { relation = r; from = x; to = y }

-- all edges that there may be of the relations rs between the events xs, by relation, from and to
unfoldable pub edges_over : List ℕ → List ℕ → List Edge
edges_over rs xs = flat_map (λ r. flat_map (λ x. map (edge_of r x) xs) xs) rs

-- the edge is one of the graph's
abbrev pub is_edge : Finite → Edge → Bool
is_edge G e = G.edges e.relation e.from e.to

-- the listed form of a graph with n relations: its events, and its edges by relation, from and to
unfoldable pub listed_of : Finite → ℕ → Listed
listed_of G n =
    record {
      atoms = G.atoms;
      edges = filter (is_edge G) (edges_over (upto 0 n) (upto 0 (length G.atoms)));
    }
