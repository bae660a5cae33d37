-- Names in lists of names and in lists of bound names: where a name stands, and what is found there.
-- Assumes nothing.
use Prim.Native.Nat.{ℕ, suc, ◌≤◌, ◌<◌}
use native.Mathlib.Omega.{arith}
use mathlib.Core.Path.{◌≡◌, refl, sym, ◌∙◌, ap, subst}
use mathlib.Core.Bool.{Bool, true, false, ◌||◌, true≢false}
use mathlib.Core.List.{List, [], ◌∷◌, ◌++◌, map}
use lib.ListN.{length}
use Rattle.kat.specs.Lists.{some as among}
use Rattle.kat.proofs.Bools.{bool_ext}
use Rattle.claims.specs.Bytes.{same}
use Rattle.claims.specs.Tree.{Name}
use Rattle.claims.specs.Query.{Bound, lookup, bound, index_of}
use Rattle.claims.proofs.Results.{same_is_equal, same_self}

-- a name stands in a list of names
abbrev pub has : Name → List Name → Bool
has n ns = among (same n) ns

pub same_turned : (m n : Name) → same m n ≡ same n m
same_turned m n =
    bool_ext (same m n) (same n m)
    (λ e. subst (λ x. same x m ≡ true) (same_is_equal m n e) (same_self m))
    (λ e. subst (λ x. same x n ≡ true) (same_is_equal n m e) (same_self n))

pub has_append : (n : Name) (a b : List Name) → has n (a ++ b) ≡ (has n a || has n b)
has_append n [] b = refl
has_append n (x ∷ a) b = go (same n x) (has_append n a b)
  where
    go : (s : Bool) → has n (a ++ b) ≡ (has n a || has n b) → (s || has n (a ++ b)) ≡ ((s || has n a) || has n b)
    go true e = refl
    go false e = e

-- the place of a name
pub index_le : (n : Name) (ns : List Name) → index_of n ns ≤ length ns
index_le n [] = omega arith
index_le n (x ∷ ns) = go (same n x) (index_le n ns)
  where
    go : (s : Bool) → index_of n ns ≤ length ns → elim s [ true ↦ 0 | false ↦ suc (index_of n ns) ] ≤ suc (length ns)
    go true h = omega arith
    go false h = omega arith

pub index_lt : (n : Name) (ns : List Name) → has n ns ≡ true → index_of n ns < length ns
index_lt n [] h = absurd (true≢false (sym h))
index_lt n (x ∷ ns) h = go (same n x) h (index_lt n ns)
  where
    go : (s : Bool) → (s || has n ns) ≡ true → (has n ns ≡ true → index_of n ns < length ns)
        → elim s [ true ↦ 0 | false ↦ suc (index_of n ns) ] < suc (length ns)
    go true e h = omega arith
    go false e h = omega (arith, h e)

pub index_append : (n : Name) (a b : List Name) → has n a ≡ true → index_of n (a ++ b) ≡ index_of n a
index_append n [] b h = absurd (true≢false (sym h))
index_append n (x ∷ a) b h = go (same n x) h (index_append n a b)
  where
    go : (s : Bool) → (s || has n a) ≡ true → (has n a ≡ true → index_of n (a ++ b) ≡ index_of n a)
        → ◌≡◌ {A = ℕ} (elim s [ true ↦ 0 | false ↦ suc (index_of n (a ++ b)) ]) (elim s [ true ↦ 0 | false ↦ suc (index_of n a) ])
    go true e h = refl
    go false e h = ap suc (h e)

-- names with one place are one name
pub index_same : (m n : Name) (ns : List Name) → has m ns ≡ true → has n ns ≡ true → index_of m ns ≡ index_of n ns → m ≡ n
index_same m n [] h k e = absurd (true≢false (sym h))
index_same m n (x ∷ ns) h k e = go (same m x) refl (same n x) refl h k e (index_same m n ns)
  where
    go : (s : Bool) → same m x ≡ s → (t : Bool) → same n x ≡ t → (s || has m ns) ≡ true → (t || has n ns) ≡ true
        → ◌≡◌ {A = ℕ} (elim s [ true ↦ 0 | false ↦ suc (index_of m ns) ]) (elim t [ true ↦ 0 | false ↦ suc (index_of n ns) ])
        → (has m ns ≡ true → has n ns ≡ true → index_of m ns ≡ index_of n ns → m ≡ n) → m ≡ n
    go true f true g h k e i = same_is_equal m x f ∙ sym (same_is_equal n x g)
    go true f false g h k e i = absurd (omega arith)
    go false f true g h k e i = absurd (omega arith)
    go false f false g h k e i = i h k (omega arith)

module _ {A : Type 0} where
  -- the names of a list of bound names
  abbrev pub called : List (Bound A) → List Name
  called es = map (λ b. b.called) es

  pub lookup_first : (d : A) (n : Name) (a b : List (Bound A)) → has n (called a) ≡ true → lookup d n (a ++ b) ≡ lookup d n a
  lookup_first d n [] b h = absurd (true≢false (sym h))
  lookup_first d n (x ∷ a) b h = go (same n x.called) h (lookup_first d n a b)
    where
      go : (s : Bool) → (s || has n (called a)) ≡ true → (has n (called a) ≡ true → lookup d n (a ++ b) ≡ lookup d n a)
          → ◌≡◌ {A = A} (elim s [ true ↦ x.means | false ↦ lookup d n (a ++ b) ]) (elim s [ true ↦ x.means | false ↦ lookup d n a ])
      go true e h = refl
      go false e h = h e

  pub lookup_second : (d : A) (n : Name) (a b : List (Bound A)) → has n (called a) ≡ false → lookup d n (a ++ b) ≡ lookup d n b
  lookup_second d n [] b h = refl
  lookup_second d n (x ∷ a) b h = go (same n x.called) h (lookup_second d n a b)
    where
      go : (s : Bool) → (s || has n (called a)) ≡ false → (has n (called a) ≡ false → lookup d n (a ++ b) ≡ lookup d n b)
          → ◌≡◌ {A = A} (elim s [ true ↦ x.means | false ↦ lookup d n (a ++ b) ]) (lookup d n b)
      go true e h = absurd (true≢false e)
      go false e h = h e

  pub called_bound : (w : Name → A) (ns : List Name) → called (bound w ns) ≡ ns
  called_bound w [] = refl
  called_bound w (n ∷ ns) = ap (λ l. n ∷ l) (called_bound w ns)

  pub lookup_bound : (d : A) (w : Name → A) (n : Name) (ns : List Name) (b : List (Bound A)) → has n ns ≡ true
      → lookup d n (bound w ns ++ b) ≡ w n
  lookup_bound d w n [] b h = absurd (true≢false (sym h))
  lookup_bound d w n (x ∷ ns) b h = go (same n x) refl h (lookup_bound d w n ns b)
    where
      go : (s : Bool) → same n x ≡ s → (s || has n ns) ≡ true → (has n ns ≡ true → lookup d n (bound w ns ++ b) ≡ w n)
          → ◌≡◌ {A = A} (elim s [ true ↦ w x | false ↦ lookup d n (bound w ns ++ b) ]) (w n)
      go true f e h = ap w (sym (same_is_equal n x f))
      go false f e h = h e
