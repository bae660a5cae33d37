-- Codes of expressions: each is below 128, so that none ends a line; what they count together is what the expression counts, where each
-- name counts what it is bound to; and the walk over them adds just that to what it is counting.
-- Assumes nothing.
use Prim.Native.Nat.{ℕ, ◌+◌, ◌≤◌, ◌<◌}
use native.Mathlib.Nat.{add-zero}
use native.Mathlib.Omega.{arith}
use mathlib.Core.Path.{◌≡◌, refl, sym, ◌∙◌, ap}
use mathlib.Core.Bool.{cond}
use mathlib.Core.List.{List, [], ◌∷◌, ◌++◌}
use mathlib.Core.Option.{none}
use borrow.Author.Tests.{lt-ltb, le-ltb, ne_eqb}
use Rattle.claims.specs.Tree.{Name, TestTree, test_name, true_test, false_test, either, both, not, Tree, name, tested, union, sequence, star, plus, opt}
use Rattle.claims.specs.Names.{uses_test, uses_either, test_uses, tree_uses, kind_of, slip, first_slip}
use Rattle.claims.specs.Query.{Query, Bound, lookup, index_of, tests}
use Rattle.claims.specs.Counting.{count}
use Rattle.claims.proofs.Limits.{Declared}
use Rattle.codes.specs.Codes.{kind_code, code_of, test_codes, tree_codes}
use Rattle.side_limits.specs.Tally.{Tally, weight, step, run}
use Rattle.side_limits.specs.Places.{until_end}
use Rattle.side_limits.proofs.Weights.{weight_test}
use Rattle.codes.proofs.Names.{index_le}
use Rattle.codes.proofs.Orderly.{slip_first, slip_append}
use Rattle.codes.proofs.Below.{Below, a_test_lem}

module _ {A : Type 0} where
  -- the sum of what f gives
  abbrev pub sum_of : (A → ℕ) → List A → ℕ
  sum_of f [] = 0
  sum_of f (x ∷ xs) = f x + sum_of f xs

  pub sum_append : (f : A → ℕ) (xs ys : List A) → sum_of f (xs ++ ys) ≡ sum_of f xs + sum_of f ys
  sum_append f [] ys = omega arith
  sum_append f (x ∷ xs) ys = omega (arith, sum_append f xs ys)

module _ (p : Query) (d : Declared p) (t : ℕ) (w : ℕ → ℕ) (ls : List ℕ) where
  -- what the codes of an expression count together
  abbrev counts : List ℕ → ℕ
  counts ks = sum_of (weight t w ls) ks

  test_name_lem : (n : Name) → slip p (uses_test n) ≡ none → weight t w ls (code_of p n) ≡ 0
  unfolding slip code_of kind_code
  test_name_lem n e =
      let h : index_of n (tests p) ≤ 6 = omega (arith, index_le n (tests p), d.tests) in
      rw (a_test_lem (kind_of p n) e, code_of, kind_code)
      (weight_test t w ls (16 + index_of n (tests p)) (omega arith)
      ∙ ap (λ b. cond b t 0) (ne_eqb (16 + index_of n (tests p)) 6 (λ z. omega arith)))

  joined : (xs ys : List ℕ) (k a b : ℕ) → weight t w ls k ≡ 0 → counts xs ≡ a → counts ys ≡ b → counts ((xs ++ ys) ++ (k ∷ [])) ≡ a + b
  joined xs ys k a b z e f = omega (arith, sum_append (weight t w ls) (xs ++ ys) (k ∷ []), sum_append (weight t w ls) xs ys)

  ended : (xs : List ℕ) (k a b : ℕ) → weight t w ls k ≡ b → counts xs ≡ a → counts (xs ++ (k ∷ [])) ≡ a + b
  ended xs k a b z e = omega (arith, sum_append (weight t w ls) xs (k ∷ []))

  test_counts : (u : TestTree) → first_slip p (test_uses u) ≡ none → counts (test_codes p u) ≡ 0
  unfolding test_codes test_uses weight
  test_counts (test_name n) e = omega (arith, test_name_lem n (slip_first p (uses_test n) [] e).0)
  test_counts true_test e = refl
  test_counts false_test e = refl
  test_counts (either u v) e =
      let (a, b) = slip_append p (test_uses u) (test_uses v) e in
      joined (test_codes p u) (test_codes p v) 3 0 0 refl (test_counts u a) (test_counts v b)
  test_counts (both u v) e =
      let (a, b) = slip_append p (test_uses u) (test_uses v) e in
      joined (test_codes p u) (test_codes p v) 4 0 0 refl (test_counts u a) (test_counts v b)
  test_counts (not u) e = ended (test_codes p u) 5 0 0 refl (test_counts u e)

  -- the codes of an expression count what the expression counts
  module _ (env : List (Bound ℕ)) (named : (n : Name) → slip p (uses_either n) ≡ none → weight t w ls (code_of p n) ≡ lookup 0 n env) where
    pub tree_counts : (e : Tree) → first_slip p (tree_uses e) ≡ none → counts (tree_codes p e) ≡ count t env e
    unfolding tree_codes tree_uses count weight
    tree_counts (name n) e = add-zero _ ∙ named n (slip_first p (uses_either n) [] e).0
    tree_counts (tested u) e = ended (test_codes p u) 6 0 t refl (test_counts u e) ∙ omega arith
    tree_counts (union f g) e =
        let (a, b) = slip_append p (tree_uses f) (tree_uses g) e in
        joined (tree_codes p f) (tree_codes p g) 7 _ _ refl (tree_counts f a) (tree_counts g b)
    tree_counts (sequence f g) e =
        let (a, b) = slip_append p (tree_uses f) (tree_uses g) e in
        joined (tree_codes p f) (tree_codes p g) 8 _ _ refl (tree_counts f a) (tree_counts g b)
    tree_counts (star f) e = ended (tree_codes p f) 9 _ 0 refl (tree_counts f e) ∙ add-zero _
    tree_counts (plus f) e = ended (tree_codes p f) 10 _ 0 refl (tree_counts f e) ∙ add-zero _
    tree_counts (opt f) e = ended (tree_codes p f) 11 _ 0 refl (tree_counts f e) ∙ add-zero _

-- the walk with x counted of the expression that is being read
abbrev pub counting : Tally → ℕ → Tally
counting d x = record { now = x; lets = d.lets }

module _ (t : ℕ) (w : ℕ → ℕ) where
  step_below : (d : Tally) (k : ℕ) → k < 128 → step t w d k ≡ counting d (d.now + weight t w d.lets k)
  unfolding step
  step_below d k h = rw (step, lt-ltb k 128 h, ne_eqb k 130 (λ e. omega arith))

  -- the walk over an expression
  pub run_below : (d : Tally) (ks : List ℕ) → Below 128 ks → run t w d ks ≡ counting d (d.now + sum_of (weight t w d.lets) ks)
  unfolding run
  run_below d [] h = ap (counting d) (sym (add-zero d.now))
  run_below d (k ∷ ks) (h, b) =
      ap (λ x. run t w x ks) (step_below d k h)
      ∙ run_below (counting d (d.now + weight t w d.lets k)) ks b
      ∙ ap (counting d) (omega arith)

-- up to the code that ends it, an expression counts what all its codes count
pub until_tree : (f : ℕ → ℕ) (xs : List ℕ) (m : ℕ) (rest : List ℕ) → Below 128 xs → 128 ≤ m → until_end f (xs ++ (m ∷ rest)) ≡ sum_of f xs
unfolding until_end
until_tree f [] m rest b h = rw (le-ltb m 128 h)
until_tree f (x ∷ xs) m rest (l, b) h = rw (lt-ltb x 128 l) (ap (λ n. f x + n) (until_tree f xs m rest b h))
