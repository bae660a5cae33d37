-- Where all lines of a query count, the decision of a claim and its limits are those of document 01.
-- Assumes nothing.
use Prim.Native.Nat.{ℕ, suc}
use mathlib.Core.Path.{◌≡◌, refl, ap, ap₂}
use mathlib.Core.Bool.{Bool, true, false, cond, ◌&&◌}
use mathlib.Core.List.{List, [], ◌∷◌, ◌++◌}
use lib.Dec.{leb}
use Rattle.kat.specs.Expr.{test, alt, none as nowhere}
use Rattle.kat.specs.Tables.{null}
use Rattle.notation.specs.Tree.{Tree, Claim, includes, empty, irreflexive, Line}
use Rattle.notation.specs.Query.{Query, each, assumed_empty, assumed_irreflexive}
use Rattle.notation.specs.Counting.{Size, size_of, with_anys, left_size, right_size, right_limit, within_limits}
use Rattle.notation.specs.Sides.{side, union_all, a0, a1, zero, somewhere, decision_of, decision}
use Rattle.notation.specs.Under.{of_lines, empty_under, irreflexive_under, decision_under, right_under, within_under}

module _ (counts : ℕ → Bool) (all : (l : ℕ) → counts l ≡ true) where
  pub all_lines : (f : Line → List Tree) (n : ℕ) (q : Query) → of_lines counts f n q ≡ each f q
  all_lines f n [] = refl
  all_lines f n (l ∷ q) = ap₂ (λ b es. cond b (f l) [] ++ es) (all n) (all_lines f (suc n) q)

  module _ (q : Query) where
    empty_all : empty_under counts q ≡ a0 q
    unfolding empty_under a0
    empty_all = ap (union_all q) (all_lines assumed_empty 0 q)

    irreflexive_all : irreflexive_under counts q ≡ a1 q
    unfolding irreflexive_under a1
    irreflexive_all = ap (union_all q) (all_lines assumed_irreflexive 0 q)

    -- the decision
    pub decision_all : (c : Claim) → decision_under counts q c ≡ decision q c
    unfolding decision_under decision zero
    decision_all (includes e f) =
        ap₂ (λ x y. decision_of q false (side q e) (alt (side q f) (somewhere (alt x (test (null y)))))) empty_all irreflexive_all
    decision_all (empty e) =
        ap₂ (λ x y. decision_of q false (side q e) (alt nowhere (somewhere (alt x (test (null y)))))) empty_all irreflexive_all
    decision_all (irreflexive e) = ap₂ (λ x y. decision_of q true (side q e) (alt y (somewhere x))) empty_all irreflexive_all

    -- the limits
    right_all : (c : Claim) → right_under counts q c ≡ right_size q c
    unfolding right_under right_size
    right_all (includes e f) = ap (λ es. with_anys 1 (size_of q (f ∷ es))) (all_lines assumed_empty 0 q)
    right_all (empty e) = ap (λ es. with_anys 2 (size_of q es)) (all_lines assumed_empty 0 q)
    right_all (irreflexive e) =
        ap₂ (λ es fs. with_anys 0 (size_of q (es ++ fs))) (all_lines assumed_irreflexive 0 q) (all_lines assumed_empty 0 q)

    pub within_all : (c : Claim) → within_under counts q c ≡ within_limits q c
    unfolding within_under within_limits
    within_all c =
        ap₂ (λ (s : Size) es.
        (leb (left_size q c).occurrences 64 && leb (left_size q c).leaves 512)
        && (leb s.occurrences (right_limit c) && leb s.leaves 512)
        && leb (size_of q es).leaves 512)
        (right_all c) (all_lines assumed_irreflexive 0 q)
