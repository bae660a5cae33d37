-- A T that was read after the first lines of a query means the same over the tests of all its lines: tests that are declared later come
-- behind. So the set of its codes is the set of the atoms of the query that satisfy it.
-- Assumes nothing.
use Prim.Native.Nat.{ℕ, suc, ◌≤◌, ◌<◌}
use native.Mathlib.Omega.{arith}
use mathlib.Core.Path.{◌≡◌, refl, sym, ◌∙◌, ap, ap₂}
use mathlib.Core.Bool.{Bool, true, false, not, ◌&&◌, ◌||◌}
use mathlib.Core.List.{List, [], ◌∷◌, ◌++◌}
use mathlib.Core.Option.{none}
use lib.ListN.{length}
use Rattle.claims.specs.Bytes.{same}
use Rattle.claims.specs.Tree.{Name, TestTree, test_name, true_test, false_test, either, both, not as negated}
use Rattle.claims.specs.Names.{uses_test, test_uses, kind_of, slip, first_slip}
use Rattle.claims.specs.Query.{Query, bit, each, index_of, test_names, tests, holds}
use Rattle.claims.proofs.Results.{each_append}
use Rattle.codes.specs.Codes.{test_codes}
use Rattle.codes.proofs.Orderly.{slip_first, slip_append, Settled}
use Rattle.codes.proofs.Below.{a_test_lem}
use Rattle.side_atoms.specs.Atoms.{atoms_of}
use Rattle.side_atoms.specs.Tests.{test_set}
use Rattle.side_atoms.proofs.Atoms.{atoms_same}
use Rattle.side_atoms.proofs.TestCodes.{test_number, test_set_lem}

index_within : (n : Name) (a b : List Name) → index_of n a < length a → index_of n (a ++ b) ≡ index_of n a
index_within n [] b h = absurd (omega arith)
index_within n (x ∷ a) b h = go (same n x) h (index_within n a b)
  where
    go : (s : Bool) → elim s [ true ↦ 0 | false ↦ suc (index_of n a) ] < suc (length a)
        → (index_of n a < length a → index_of n (a ++ b) ≡ index_of n a)
        → ◌≡◌ {A = ℕ} (elim s [ true ↦ 0 | false ↦ suc (index_of n (a ++ b)) ]) (elim s [ true ↦ 0 | false ↦ suc (index_of n a) ])
    go true h k = refl
    go false h k = ap suc (k (omega arith))

module _ (q p r : Query) (z : p ++ r ≡ q) where
  test_place : (n : Name) → slip p (uses_test n) ≡ none → index_of n (tests p) ≡ index_of n (tests q)
  unfolding slip tests
  test_place n e =
      sym (ap (λ x. index_of n (each test_names x)) (sym z) ∙ ap (index_of n) (each_append test_names p r)
      ∙ index_within n (each test_names p) (each test_names r) (test_number p n (a_test_lem (kind_of p n) e)))

  pub holds_earlier : (t : TestTree) → first_slip p (test_uses t) ≡ none → (a : ℕ) → holds (tests p) t a ≡ holds (tests q) t a
  unfolding holds test_uses
  holds_earlier (test_name n) e a = ap (λ i. bit i a) (test_place n (slip_first p (uses_test n) [] e).0)
  holds_earlier true_test e a = refl
  holds_earlier false_test e a = refl
  holds_earlier (either t u) e a =
      let (h, k) = slip_append p (test_uses t) (test_uses u) e in
      ap₂ ◌||◌ (holds_earlier t h a) (holds_earlier u k a)
  holds_earlier (both t u) e a =
      let (h, k) = slip_append p (test_uses t) (test_uses u) e in
      ap₂ ◌&&◌ (holds_earlier t h a) (holds_earlier u k a)
  holds_earlier (negated t) e a = ap not (holds_earlier t e a)

  -- the set of a T that was read after the lines of p
  pub set_earlier : Settled p → (t : TestTree) → first_slip p (test_uses t) ≡ none → length (test_codes p t) ≤ 4096
      → test_set (test_codes p t) ≡ atoms_of (holds (tests q) t)
  set_earlier s t e l =
      test_set_lem p t s.room.tests e l
      ∙ atoms_same (holds (tests p) t) (holds (tests q) t) (λ a h. holds_earlier t e a)
