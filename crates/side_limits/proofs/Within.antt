-- The `within` lines of a relation, counted by their codes, wherever they stand in the query, and so what its code counts.
-- Assumes nothing.
use Prim.Native.Nat.{ℕ, ◌+◌, ◌<◌}
use native.Mathlib.Nat.{mul-zero}
use native.Mathlib.Omega.{arith}
use mathlib.Core.Path.{◌≡◌, refl, sym, ◌∙◌, ap}
use mathlib.Core.Bool.{Bool, true, false, cond}
use mathlib.Core.List.{[], ◌∷◌, ◌++◌}
use mathlib.Core.Option.{none}
use lib.Dec.{eqb}
use lib.ListN.{length}
use borrow.Author.Tests.{ne_eqb}
use Rattle.claims.specs.Bytes.{same}
use Rattle.claims.specs.Tree.{Name, includes, empty, irreflexive, Line, test_line, rel_line, let_line, never_line, within_line, closed_line, assume_empty, assume_irreflexive, claim_line}
use Rattle.claims.specs.Names.{uses_relation, uses, test_uses, slip, first_slip}
use Rattle.claims.specs.Query.{Query, Limit, each, index_of, limits, relations}
use Rattle.claims.specs.Expanded.{stands_for, count_expanded}
use Rattle.claims.proofs.Counts.{relation_occurs_once, relation_has_leaves}
use Rattle.codes.specs.Codes.{query_codes}
use Rattle.side_limits.specs.Tally.{how_many, times, relation_count}
use Rattle.codes.proofs.Names.{has, index_lt}
use Rattle.codes.proofs.Orderly.{Orderly, slip_first, Settled, settled_none, settled_on}
use Rattle.codes.proofs.NamedRelations.{same_number}
use Rattle.side_limits.proofs.Counts.{line_ends, query_counted, below_differs}

module _ (q : Query) (n : Name) (i : ℕ) (small : i < 16) (at : i ≡ index_of n (relations q)) (inQ : has n (relations q) ≡ true) where
  -- the end of a line that is none of this relation's `within` lines
  another : (m : ℕ) → (m ≡ 144 + i → ⊥) → how_many (λ x. eqb x (144 + i)) (m ∷ []) ≡ 0
  another m h = ap (λ b. cond b 1 0 + 0) (ne_eqb m (144 + i) h)

  module _ (p r : Query) (z : p ++ r ≡ q) (s : Settled p) where
    -- a relation's `within` line is this one's where the names are equal
    same_code : (m : Name) → slip p (uses_relation m) ≡ none → eqb (144 + index_of m (relations p)) (144 + i) ≡ same n m
    same_code m e = ap (λ k. eqb (144 + index_of m (relations p)) (144 + k)) at ∙ same_number q p r z s m e n inQ 144

    line_limits : (l : Line) → first_slip p (uses l) ≡ none → how_many (λ x. eqb x (144 + i)) (line_ends p l) ≡ length (limits n l)
    unfolding limits uses
    line_limits (test_line m) e = another 128 (λ y. omega arith)
    line_limits (rel_line m) e = another 129 (λ y. omega arith)
    line_limits (let_line m f) e = another 130 (λ y. omega arith)
    line_limits (never_line t) e = another 131 (λ y. omega arith)
    line_limits (within_line m t u) e =
        ap (λ b. cond b 1 0 + 0) (same_code m (slip_first p (uses_relation m) (test_uses t ++ test_uses u) e).0) ∙ go (same n m)
      where
        go : (b : Bool) → cond b 1 0 + 0 ≡ length {A = Limit} (elim b [ true ↦ record { from = t; to = u } ∷ [] | false ↦ [] ])
        go true = refl
        go false = refl
    line_limits (closed_line m) e = another (160 + index_of m (relations p)) (λ y. omega arith)
    line_limits (assume_empty f) e = another 133 (λ y. omega arith)
    line_limits (assume_irreflexive f) e = another 134 (λ y. omega arith)
    line_limits (claim_line (includes f g)) e = omega (arith, another 135 (λ y. omega arith), another 136 (λ y. omega arith))
    line_limits (claim_line (empty f)) e = another 137 (λ y. omega arith)
    line_limits (claim_line (irreflexive f)) e = another 138 (λ y. omega arith)

-- as many as the relation has limits
limits_counted : (q : Query) → Orderly [] q → (n : Name) → has n (relations q) ≡ true
    → times (144 + index_of n (relations q)) (query_codes q) ≡ length (each (limits n) q)
unfolding times
limits_counted q o n h =
    let i = index_of n (relations q) in
    let l : i < 16 = omega (arith, index_lt n (relations q) h, (settled_on [] q o settled_none).room.relations) in
    query_counted (λ x. eqb x (144 + i)) (below_differs (144 + i) (omega arith)) (limits n) q
    (λ p r m z e s. line_limits q n i l refl h p (m ∷ r) z s m e) o

-- a relation is one occurrence, and one leaf with the tests of its limits
pub relation_occurrence : (q : Query) (n : Name) → relation_count 0 (query_codes q) (index_of n (relations q)) ≡ count_expanded 0 (stands_for q n)
unfolding relation_count
relation_occurrence q n = ap (λ x. 1 + x) (mul-zero _) ∙ sym (relation_occurs_once q n)

pub relation_leaves : (q : Query) → Orderly [] q → (n : Name) → has n (relations q) ≡ true
    → relation_count 1 (query_codes q) (index_of n (relations q)) ≡ count_expanded 1 (stands_for q n)
unfolding relation_count
relation_leaves q o n h = omega (arith, limits_counted q o n h, relation_has_leaves q n)
