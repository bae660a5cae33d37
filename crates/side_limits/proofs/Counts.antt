-- What a walk over the codes of a query counts, where no code of an expression counts: each line counts what the codes that end it or
-- divide it count.
-- Assumes nothing.
use Prim.Native.Nat.{ℕ, ◌+◌, ◌≤◌, ◌<◌}
use native.Mathlib.Omega.{arith}
use mathlib.Core.Path.{◌≡◌, refl, ◌∙◌, ap, ap₂}
use mathlib.Core.Bool.{Bool, false, cond}
use mathlib.Core.List.{List, [], ◌∷◌, ◌++◌, append_assoc}
use mathlib.Core.Option.{none}
use lib.Dec.{eqb}
use lib.ListN.{length, length-append}
use borrow.Author.Tests.{ne_eqb}
use Rattle.claims.specs.Tree.{Claim, includes, empty, irreflexive, Line, test_line, rel_line, let_line, never_line, within_line, closed_line, assume_empty, assume_irreflexive, claim_line}
use Rattle.claims.specs.Names.{uses, first_slip}
use Rattle.claims.specs.Query.{Query, each, index_of, relations}
use Rattle.claims.proofs.Limits.{Declared}
use Rattle.codes.specs.Codes.{test_codes, tree_codes, claim_codes, line_codes, lines_codes, query_codes}
use Rattle.side_limits.specs.Tally.{how_many}
use Rattle.side_limits.proofs.Walk.{how_many_append}
use Rattle.codes.proofs.Orderly.{Orderly, Settled, settled_none, settled_more}
use Rattle.codes.proofs.Below.{Below, test_below, bracket_below, tree_below}

-- the codes from 128 on of a claim, and of a line after the lines of p
abbrev claim_ends : Claim → List ℕ
claim_ends (includes e f) = 135 ∷ 136 ∷ []
claim_ends (empty e) = 137 ∷ []
claim_ends (irreflexive e) = 138 ∷ []

abbrev pub line_ends : Query → Line → List ℕ
line_ends p (test_line n) = 128 ∷ []
line_ends p (rel_line n) = 129 ∷ []
line_ends p (let_line n e) = 130 ∷ []
line_ends p (never_line t) = 131 ∷ []
line_ends p (within_line n t u) = (144 + index_of n (relations p)) ∷ []
line_ends p (closed_line n) = (160 + index_of n (relations p)) ∷ []
line_ends p (assume_empty e) = 133 ∷ []
line_ends p (assume_irreflexive e) = 134 ∷ []
line_ends p (claim_line c) = claim_ends c

module _ (test : ℕ → Bool) (outside : (k : ℕ) → k < 128 → test k ≡ false) where
  -- the codes of an expression, and what stands after them
  after_below : (ks ms : List ℕ) → Below 128 ks → how_many test (ks ++ ms) ≡ how_many test ms
  after_below [] ms b = refl
  after_below (k ∷ ks) ms (h, b) = ap₂ (λ x n. cond x 1 0 + n) (outside k h) (after_below ks ms b) ∙ omega arith

  line_ends_lem : (p : Query) → Declared p → (l : Line) → how_many test (line_codes p l) ≡ how_many test (line_ends p l)
  unfolding line_codes claim_codes
  line_ends_lem p d (test_line n) = refl
  line_ends_lem p d (rel_line n) = refl
  line_ends_lem p d (let_line n e) = after_below (tree_codes p e) (130 ∷ []) (tree_below p d e)
  line_ends_lem p d (never_line t) = after_below (test_codes p t) (131 ∷ []) (test_below p d t)
  line_ends_lem p d (within_line n t u) =
      after_below (test_codes p t ++ (6 ∷ [])) _ (bracket_below p d t) ∙ after_below (test_codes p u ++ (6 ∷ [])) _ (bracket_below p d u)
  line_ends_lem p d (closed_line n) = refl
  line_ends_lem p d (assume_empty e) = after_below (tree_codes p e) (133 ∷ []) (tree_below p d e)
  line_ends_lem p d (assume_irreflexive e) = after_below (tree_codes p e) (134 ∷ []) (tree_below p d e)
  line_ends_lem p d (claim_line (includes e f)) =
      ap (how_many test) (append_assoc (tree_codes p e) (135 ∷ tree_codes p f) (136 ∷ []))
      ∙ after_below (tree_codes p e) (135 ∷ (tree_codes p f ++ (136 ∷ []))) (tree_below p d e)
      ∙ ap (λ n. cond (test 135) 1 0 + n) (after_below (tree_codes p f) (136 ∷ []) (tree_below p d f))
  line_ends_lem p d (claim_line (empty e)) = after_below (tree_codes p e) (137 ∷ []) (tree_below p d e)
  line_ends_lem p d (claim_line (irreflexive e)) = after_below (tree_codes p e) (138 ∷ []) (tree_below p d e)

  -- where the end of each line counts what g makes of the line, the codes count what g makes of the query
  module _ {A : Type 0} (g : Line → List A) (q : Query)
      (each_line : (p r : Query) (l : Line) → p ++ (l ∷ r) ≡ q → first_slip p (uses l) ≡ none → Settled p
      → how_many test (line_ends p l) ≡ length (g l)) where
    lines_counted : (p r : Query) → p ++ r ≡ q → Orderly p r → Settled p → how_many test (lines_codes p r) ≡ length (each g r)
    unfolding lines_codes
    lines_counted p [] z o s = refl
    lines_counted p (l ∷ r) z (e, c, o) s =
        omega (
          arith,
          how_many_append test (line_codes p l) (lines_codes (p ++ (l ∷ [])) r),
          line_ends_lem p s.room l,
          each_line p r l z e s,
          lines_counted (p ++ (l ∷ [])) r (append_assoc p (l ∷ []) r ∙ z) o (settled_more p l e c s),
          length-append (g l) (each g r),
        )

    pub query_counted : Orderly [] q → how_many test (query_codes q) ≡ length (each g q)
    unfolding query_codes
    query_counted o = lines_counted [] q refl o settled_none

-- a code of an expression is none from 128 on
pub below_differs : (m : ℕ) → 128 ≤ m → (k : ℕ) → k < 128 → eqb k m ≡ false
below_differs m h k l = ne_eqb k m (λ e. omega arith)
