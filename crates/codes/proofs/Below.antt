-- Codes of expressions: each is below 128, so that none ends a line; and where a test is wanted, a name is one.
-- Assumes nothing.
use Prim.Native.Nat.{ℕ, ◌≤◌, ◌<◌}
use native.Mathlib.Omega.{arith}
use mathlib.Core.Path.{◌≡◌, refl}
use mathlib.Core.List.{List, [], ◌∷◌, ◌++◌}
use mathlib.Core.Option.{Option, some, none}
use lib.ListN.{length, length-map}
use Rattle.claims.specs.Tree.{Name, TestTree, test_name, true_test, false_test, either, both, not, Tree, name, tested, union, sequence, star, plus, opt}
use Rattle.claims.specs.Names.{Kind, a_test, a_relation, a_let, kind_of, test_slip}
use Rattle.claims.specs.Query.{Query, Bound, each, lets, tests, relations}
use Rattle.claims.proofs.Limits.{Declared}
use Rattle.codes.specs.Codes.{let_names, kind_code, code_of, test_codes, tree_codes}
use Rattle.codes.proofs.Names.{index_le}

-- codes below m
abbrev pub Below : ℕ → List ℕ → Type 0
Below m [] = Unit {0}
Below m (k ∷ ks) = (k < m) × Below m ks

pub below_append : (m : ℕ) (xs ys : List ℕ) → Below m xs → Below m ys → Below m (xs ++ ys)
below_append m [] ys a b = b
below_append m (x ∷ xs) ys (h, a) b = (h, below_append m xs ys a b)

pub below_ended : (xs : List ℕ) (k : ℕ) → k < 128 → Below 128 xs → Below 128 (xs ++ (k ∷ []))
below_ended xs k h a = below_append 128 xs (k ∷ []) a (h, tt)

below_joined : (xs ys : List ℕ) (k : ℕ) → k < 128 → Below 128 xs → Below 128 ys → Below 128 ((xs ++ ys) ++ (k ∷ []))
below_joined xs ys k h a b = below_ended (xs ++ ys) k h (below_append 128 xs ys a b)

module _ (p : Query) (d : Declared p) where
  let_names_few : length (let_names p) ≤ 32
  unfolding let_names
  let_names_few = omega (arith, length-map (each lets p) (λ (b : Bound Tree). b.called), d.lets)

  code_below : (n : Name) → code_of p n < 128
  unfolding code_of kind_code
  code_below n = go (kind_of p n)
    where
      go : (k : Option Kind) → kind_code p n k < 128
      go none = omega arith
      go (some a_test) = omega (arith, index_le n (tests p), d.tests)
      go (some a_relation) = omega (arith, index_le n (relations p), d.relations)
      go (some a_let) = omega (arith, index_le n (let_names p), let_names_few)

  pub test_below : (u : TestTree) → Below 128 (test_codes p u)
  unfolding test_codes
  test_below (test_name n) = (code_below n, tt)
  test_below true_test = (omega arith, tt)
  test_below false_test = (omega arith, tt)
  test_below (either u v) = below_joined (test_codes p u) (test_codes p v) _ (omega arith) (test_below u) (test_below v)
  test_below (both u v) = below_joined (test_codes p u) (test_codes p v) _ (omega arith) (test_below u) (test_below v)
  test_below (not u) = below_ended (test_codes p u) _ (omega arith) (test_below u)

  pub bracket_below : (u : TestTree) → Below 128 (test_codes p u ++ (6 ∷ []))
  bracket_below u = below_ended (test_codes p u) _ (omega arith) (test_below u)

  pub tree_below : (e : Tree) → Below 128 (tree_codes p e)
  unfolding tree_codes
  tree_below (name n) = (code_below n, tt)
  tree_below (tested u) = bracket_below u
  tree_below (union e f) = below_joined (tree_codes p e) (tree_codes p f) _ (omega arith) (tree_below e) (tree_below f)
  tree_below (sequence e f) = below_joined (tree_codes p e) (tree_codes p f) _ (omega arith) (tree_below e) (tree_below f)
  tree_below (star e) = below_ended (tree_codes p e) _ (omega arith) (tree_below e)
  tree_below (plus e) = below_ended (tree_codes p e) _ (omega arith) (tree_below e)
  tree_below (opt e) = below_ended (tree_codes p e) _ (omega arith) (tree_below e)

-- a name where a test is wanted is one
pub a_test_lem : (k : Option Kind) → test_slip k ≡ none → k ≡ some a_test
unfolding test_slip
a_test_lem none e = absurd (let z : ◌≡◌ {A = ℕ} 0 1 = cc in omega arith)
a_test_lem (some a_test) e = refl
a_test_lem (some a_relation) e = absurd (let z : ◌≡◌ {A = ℕ} 0 1 = cc in omega arith)
a_test_lem (some a_let) e = absurd (let z : ◌≡◌ {A = ℕ} 0 1 = cc in omega arith)
