-- Graphs as bytes, with refusal 12 and its field. (Document 01, "Sheet and graph bytes" and refusal 12.) Tag 1, an event's atom; then
-- tag 2, an edge: relation, from, to. No bytes are the graph without events.
-- Assumes nothing.
use Rattle.std.specs.Prelude.{ℕ, zero, suc, Bool, true, false, not, ◌&&◌, List, [], ◌∷◌, ◌++◌, eqb, ltb, length}
use Rattle.std.proofs.Math.Option.{Option, some, none}
use Rattle.kat.specs.Lists.{some as some_of, is_empty}
use Rattle.kat.specs.Graph.{Finite}
use Rattle.claims.specs.Fields.{Field, whole, cut, next_field, after_field, provided}
use Rattle.notation.specs.Refusals.{graph_field, Result, ok, refuse}

-- an edge: relation, from, to ("Sheet and graph bytes")
pub record Edge : Type 0 where
  pub relation : ℕ
  pub from : ℕ
  pub to : ℕ

-- the events' atoms, and the edges as listed ("Sheet and graph bytes")
pub record Listed : Type 0 where
  pub atoms : List ℕ
  pub edges : List Edge

-- two edges are equal in relation, from and to ("Sheet and graph bytes")
unfoldable pub same_edge : Edge → Edge → Bool
same_edge e f = eqb e.relation f.relation && eqb e.from f.from && eqb e.to f.to

-- how many atoms and relations the query has ("Sheet and graph bytes")
pub record Ranges : Type 0 where
  pub atoms : ℕ
  pub relations : ℕ

-- an event: none after an edge, 64 at the most ("Sheet and graph bytes")
unfoldable pub with_event : Ranges → Listed → List ℕ → Option Listed
with_event R G [] = none
with_event R G (a ∷ []) =
    provided (ltb a R.atoms && is_empty G.edges && ltb (length G.atoms) 64)
    (record { atoms = G.atoms ++ (a ∷ []); edges = G.edges })
with_event R G (a ∷ b ∷ bs) = none

-- an edge between events that there are, not repeated ("Sheet and graph bytes")
unfoldable pub with_edge : Ranges → Listed → List ℕ → Option Listed
with_edge R G [] = none
with_edge R G (r ∷ []) = none
with_edge R G (r ∷ x ∷ []) = none
with_edge R G (r ∷ x ∷ y ∷ []) =
    let e : Edge = record { relation = r; from = x; to = y } in
    provided
    (ltb r R.relations && ltb x (length G.atoms) && ltb y (length G.atoms) && not (some_of (same_edge e) G.edges))
    (record { atoms = G.atoms; edges = G.edges ++ (e ∷ []) })
with_edge R G (r ∷ x ∷ y ∷ b ∷ bs) = none

-- tag 1 is an event, tag 2 an edge, and any other tag is wrong ("Sheet and graph bytes")
unfoldable pub with_field : Ranges → Listed → Field → Option Listed
with_field R G cut = none
with_field R G (whole tag contents rest) =
    elim (eqb tag 1) [
      | true ↦ with_event R G contents
      | false ↦ elim (eqb tag 2) [ true ↦ with_edge R G contents | false ↦ none ]
    ]

-- the fields from field k on, after those of G; each takes a byte at least, so n more are enough where there are n bytes ("Sheet and graph bytes")
unfoldable pub fields_in : Ranges → ℕ → ℕ → Listed → List ℕ → Result Listed
fields_in R zero k G bs = ok G
fields_in R (suc n) k G bs =
    elim (is_empty bs) [
      | true ↦ ok G
      | false ↦ elim (with_field R G (next_field bs)) [
        | none ↦ refuse graph_field k
        | some H ↦ fields_in R n (suc k) H (after_field (next_field bs))
      ]
    ]

-- the graph that the bytes are, or refusal 12 at the first wrong field ("Sheet and graph bytes")
unfoldable pub graph_in : Ranges → List ℕ → Result Listed
graph_in R bs = fields_in R (length bs) 1 (record { atoms = []; edges = [] }) bs

-- a listed graph as a graph ("Sheet and graph bytes")
unfoldable pub finite : Listed → Finite
finite G =
    record {
      atoms = G.atoms;
      edges = λ r x y. some_of (same_edge (record { relation = r; from = x; to = y })) G.edges;
    }
