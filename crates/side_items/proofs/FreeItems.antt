-- Items whose codes do not pass a test. Where the test passes only codes that end a `never`, a `within` or a `closed` line, the items of
-- every other line are so: what such a test looks for among the codes of a query stands in those three kinds of lines only.
-- Assumes nothing.
use Prim.Native.Nat.{ℕ, ◌+◌, ◌<◌}
use native.Mathlib.Omega.{arith}
use mathlib.Core.Path.{◌≡◌}
use mathlib.Core.Bool.{Bool, false}
use mathlib.Core.List.{List, [], ◌∷◌, ◌++◌}
use mathlib.Core.Option.{none}
use Rattle.claims.specs.Tree.{TestTree, Tree, Claim, includes, empty, irreflexive, Line, test_line, rel_line, let_line, never_line, within_line, closed_line, assume_empty, assume_irreflexive, claim_line}
use Rattle.claims.specs.Names.{declares, uses_relation, test_uses, tree_uses, claim_uses, uses, first_slip}
use Rattle.claims.specs.Query.{Query, index_of, relations}
use Rattle.codes.specs.Codes.{test_codes}
use Rattle.codes.proofs.Orderly.{slip_first, slip_append, Settled}
use Rattle.side_atoms.specs.Tests.{test_set}
use Rattle.side_items.specs.Items.{Item}
use Rattle.side_items.proofs.Scanned.{item, of_test_small, Tested, plain}
use Rattle.side_items.proofs.TreeItems.{bracket_items, tree_items, test_codes_lem}
use Rattle.side_items.proofs.LineItems.{claim_items, line_items}
use Rattle.side_items.proofs.Inside.{Inside, tree_inside}

-- no code of the items passes the test
abbrev pub Free : (ℕ → Bool) → List Item → Type 0
Free f [] = Unit {0}
Free f (i ∷ is) = (f i.code ≡ false) × Free f is

-- the line is none whose end passes the test
abbrev pub Unmarked : (ℕ → Bool) → Query → Line → Type 0
Unmarked f p (test_line n) = Unit {0}
Unmarked f p (rel_line n) = Unit {0}
Unmarked f p (let_line n e) = Unit {0}
Unmarked f p (never_line t) = f 131 ≡ false
Unmarked f p (within_line n t u) = f (144 + index_of n (relations p)) ≡ false
Unmarked f p (closed_line n) = f (160 + index_of n (relations p)) ≡ false
Unmarked f p (assume_empty e) = Unit {0}
Unmarked f p (assume_irreflexive e) = Unit {0}
Unmarked f p (claim_line c) = Unit {0}

module _ (f : ℕ → Bool) (low : (k : ℕ) → k < 144 → (k ≡ 131 → ⊥) → f k ≡ false) where
  free_append : (xs ys : List Item) → Free f xs → Free f ys → Free f (xs ++ ys)
  free_append [] ys a b = b
  free_append (x ∷ xs) ys (h, a) b = (h, free_append xs ys a b)

  free_ended : (xs : List Item) (k x : ℕ) → Free f xs → f k ≡ false → Free f (xs ++ (item k x ∷ []))
  free_ended xs k x a h = free_append xs (item k x ∷ []) a (h, tt)

  free_inside : (xs : List Item) → Inside xs → Free f xs
  free_inside [] b = tt
  free_inside (x ∷ xs) (h, b) = (low x.code (omega arith) (λ z. omega arith), free_inside xs b)

  pub free_plain : (ks : List ℕ) → Tested ks → Free f (plain ks)
  free_plain [] t = tt
  free_plain (k ∷ ks) (h, t) = let (l, n) = of_test_small k h in (low k (omega arith) (λ z. omega arith), free_plain ks t)

  module _ (p : Query) (s : Settled p) (ss : List ℕ) where
    free_bracket : (t : TestTree) → first_slip p (test_uses t) ≡ none → Free f (bracket_items p t)
    unfolding bracket_items
    free_bracket t e =
        free_ended (plain (test_codes p t)) 6 (test_set (test_codes p t)) (free_plain (test_codes p t) (test_codes_lem p s t e))
        (low 6 (omega arith) (λ z. omega arith))

    -- an expression and what ends it
    free_tree : (e : Tree) (k : ℕ) → first_slip p (tree_uses e) ≡ none → k < 144 → (k ≡ 131 → ⊥) → Free f (tree_items ss p e ++ (item k 0 ∷ []))
    free_tree e k h l n = free_ended (tree_items ss p e) k 0 (free_inside (tree_items ss p e) (tree_inside p s ss e h)) (low k l n)

    free_claim : (c : Claim) → first_slip p (claim_uses c) ≡ none → Free f (claim_items ss p c)
    unfolding claim_items claim_uses
    free_claim (includes e g) h =
        let (a, b) = slip_append p (tree_uses e) (tree_uses g) h in
        free_append (tree_items ss p e ++ (item 135 0 ∷ [])) (tree_items ss p g ++ (item 136 0 ∷ []))
        (free_tree e 135 a (omega arith) (λ z. omega arith)) (free_tree g 136 b (omega arith) (λ z. omega arith))
    free_claim (empty e) h = free_tree e 137 h (omega arith) (λ z. omega arith)
    free_claim (irreflexive e) h = free_tree e 138 h (omega arith) (λ z. omega arith)

    pub line_free : (l : Line) → first_slip p (uses l) ≡ none → Unmarked f p l → Free f (line_items ss p l)
    unfolding line_items uses
    line_free (test_line n) h u = (low 128 (omega arith) (λ z. omega arith), tt)
    line_free (rel_line n) h u = (low 129 (omega arith) (λ z. omega arith), tt)
    line_free (let_line n e) h u = free_tree e 130 (slip_first p (declares n) (tree_uses e) h).1 (omega arith) (λ z. omega arith)
    line_free (never_line t) h u =
        free_ended (plain (test_codes p t)) 131 (test_set (test_codes p t)) (free_plain (test_codes p t) (test_codes_lem p s t h)) u
    line_free (within_line n t v) h u =
        let (a, b) = slip_append p (test_uses t) (test_uses v) (slip_first p (uses_relation n) (test_uses t ++ test_uses v) h).1 in
        free_append (bracket_items p t) (bracket_items p v ++ (item (144 + index_of n (relations p)) 0 ∷ []))
        (free_bracket t a) (free_ended (bracket_items p v) (144 + index_of n (relations p)) 0 (free_bracket v b) u)
    line_free (closed_line n) h u = (u, tt)
    line_free (assume_empty e) h u = free_tree e 133 h (omega arith) (λ z. omega arith)
    line_free (assume_irreflexive e) h u = free_tree e 134 h (omega arith) (λ z. omega arith)
    line_free (claim_line c) h u = free_claim c h
