-- The relation that a line names: it is declared in the lines before, and its number there is its number in the whole query. So two names
-- are one relation exactly where their numbers are equal.
-- Assumes nothing.
use Prim.Native.Nat.{ℕ, ◌+◌}
use native.Mathlib.Omega.{arith}
use mathlib.Core.Path.{◌≡◌, refl, ap, subst}
use mathlib.Core.Bool.{Bool, true, false}
use mathlib.Core.List.{◌++◌}
use mathlib.Core.Option.{Option, some, none}
use lib.Dec.{eqb}
use borrow.Author.Tests.{eq-eqb, ne_eqb}
use Rattle.kat.proofs.Bools.{true_not_false}
use Rattle.claims.specs.Bytes.{same}
use Rattle.claims.specs.Tree.{Name}
use Rattle.claims.specs.Names.{Kind, a_test, a_relation, a_let, uses_relation, kind_of, slip, relation_slip}
use Rattle.claims.specs.Query.{Query, index_of, relations}
use Rattle.claims.proofs.Results.{same_is_equal, same_self}
use Rattle.codes.proofs.Names.{has, index_same}
use Rattle.codes.proofs.Orderly.{Settled}
use Rattle.codes.proofs.Bindings.{relation_place, relation_in}

-- a name where a relation is wanted is one
a_relation_lem : (k : Option Kind) → relation_slip k ≡ none → k ≡ some a_relation
unfolding relation_slip
a_relation_lem none e = absurd (let z : ◌≡◌ {A = ℕ} 0 1 = cc in omega arith)
a_relation_lem (some a_test) e = absurd (let z : ◌≡◌ {A = ℕ} 0 1 = cc in omega arith)
a_relation_lem (some a_relation) e = refl
a_relation_lem (some a_let) e = absurd (let z : ◌≡◌ {A = ℕ} 0 1 = cc in omega arith)

-- a relation that a line after those of p names
module _ (q p r : Query) (z : p ++ r ≡ q) (s : Settled p) (m : Name) (e : slip p (uses_relation m) ≡ none) where
  pub named_relation : has m (relations p) ≡ true
  unfolding slip
  named_relation = relation_in p m s (a_relation_lem (kind_of p m) e)

  -- it is n where it has the number of n
  pub same_number : (n : Name) → has n (relations q) ≡ true → (c : ℕ)
      → eqb (c + index_of m (relations p)) (c + index_of n (relations q)) ≡ same n m
  same_number n h c = let (place, inside) = relation_place q p r z m named_relation in go place inside (same n m) refl
    where
      go : index_of m (relations p) ≡ index_of m (relations q) → has m (relations q) ≡ true
          → (b : Bool) → same n m ≡ b → eqb (c + index_of m (relations p)) (c + index_of n (relations q)) ≡ b
      go place inside true g =
          eq-eqb (c + index_of m (relations p)) (c + index_of n (relations q))
          (omega (arith, place, ap (λ x. index_of x (relations q)) (same_is_equal n m g)))
      go place inside false g =
          ne_eqb (c + index_of m (relations p)) (c + index_of n (relations q))
          (λ y.
          let k : n ≡ m = index_same n m (relations q) h inside (omega (arith, place)) in
          true_not_false (subst (λ x. same n x ≡ true) k (same_self n)) g)
