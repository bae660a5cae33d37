-- Lists in which every member stands in a relation to all members after it, and rising lists of numbers, which are such. A part of
-- the list, its image and the rows of its members one after another are such lists again.
-- Assumes nothing.
use Prim.Native.Nat.{ℕ, zero, suc, ◌-◌}
use mathlib.Core.Path.{refl, sym, subst}
use mathlib.Core.Logic.{◌⊎◌, ⊎_elim}
use mathlib.Core.Logic.◌⊎◌.{inl, inr}
use mathlib.Core.Bool.{Bool, true, false, cond}
use mathlib.Core.List.{List, [], ◌∷◌, ◌++◌, map, flat_map}
use Rattle.kat.specs.Lists.{In, here, there, counted, upto, filter}
use Rattle.kat.proofs.Sets.{in_append, in_append_left, in_append_right, map_in, filter_in, counted_in_lem}
use Rattle.verdicts.specs.Orders.{Pairwise, Rising}

module _ {A : Type 0} (R : A → A → Type 0) where
  pub pairwise_append : (xs ys : List A) → Pairwise R xs → Pairwise R ys → ((x y : A) → In x xs → In y ys → R x y)
      → Pairwise R (xs ++ ys)
  pairwise_append [] ys p q c = q
  pairwise_append (x ∷ xs) ys p q c = (
    (λ y i. ⊎_elim (p.0 y) (c x y (here refl)) (in_append xs i)),
    pairwise_append xs ys p.1 q (λ z y i j. c z y (there i) j),
  )

  pub pairwise_filter : (t : A → Bool) (xs : List A) → Pairwise R xs → Pairwise R (filter t xs)
  pairwise_filter t [] p = tt
  pairwise_filter t (x ∷ xs) p = go (t x) (pairwise_filter t xs p.1)
    where
      go : (b : Bool) → Pairwise R (filter t xs) → Pairwise R (cond b (x ∷ filter t xs) (filter t xs))
      go true q = (λ y i. p.0 y (filter_in t xs i).0, q)
      go false q = q

module _ {A B : Type 0} (R : A → A → Type 0) (Q : B → B → Type 0) where
  pub pairwise_map : (f : A → B) (xs : List A) → Pairwise R xs → ((x y : A) → R x y → Q (f x) (f y)) → Pairwise Q (map f xs)
  pairwise_map f [] p h = tt
  pairwise_map f (x ∷ xs) p h = (
    (λ y i. let (z, j, e) = map_in f xs i in subst (Q (f x)) (sym e) (h x z (p.0 z j))),
    pairwise_map f xs p.1 h,
  )

-- another relation, where it holds of the members too
pub pairwise_other : {A : Type 0} (R Q : A → A → Type 0) (xs : List A) → Pairwise R xs
    → ((x y : A) → In x xs → In y xs → R x y → Q x y) → Pairwise Q xs
pairwise_other R Q [] p h = tt
pairwise_other R Q (x ∷ xs) p h = (
  (λ y i. h x y (here refl) (there i) (p.0 y i)),
  pairwise_other R Q xs p.1 (λ y z i j. h y z (there i) (there j)),
)

-- the rows of the members, one after another
module _ {A B : Type 0} (f : A → List B) where
  pub in_rows : {x : A} {y : B} {xs : List A} → In x xs → In y (f x) → In y (flat_map f xs)
  unfolding flat_map
  in_rows {y = y} (here {l = xs} e) j = in_append_left (flat_map f xs) (subst (λ z. In y (f z)) e j)
  in_rows (there {y = z} i) j = in_append_right (f z) (in_rows i j)

  pub rows_in : {y : B} (xs : List A) → In y (flat_map f xs) → (x : A) × In x xs × In y (f x)
  unfolding flat_map
  rows_in [] i = elim i [ ]
  rows_in {y} (x ∷ xs) i = go (in_append (f x) i) (rows_in xs)
    where
      go : In y (f x) ⊎ In y (flat_map f xs) → (In y (flat_map f xs) → (z : A) × In z xs × In y (f z))
          → (z : A) × In z (x ∷ xs) × In y (f z)
      go (inl j) k = (x, here refl, j)
      go (inr j) k = let (z, a, b) = k j in (z, there a, b)

  pub pairwise_rows : (R : A → A → Type 0) (Q : B → B → Type 0) (xs : List A) → Pairwise R xs
      → ((x : A) → In x xs → Pairwise Q (f x)) → ((x y : A) (u v : B) → R x y → In u (f x) → In v (f y) → Q u v)
      → Pairwise Q (flat_map f xs)
  unfolding flat_map
  pairwise_rows R Q [] p h c = tt
  pairwise_rows R Q (x ∷ xs) p h c =
      pairwise_append Q (f x) (flat_map f xs) (h x (here refl)) (pairwise_rows R Q xs p.1 (λ y i. h y (there i)) c)
      (λ u v i j. let (y, k, l) = rows_in xs j in c x y u v (p.0 y k) i l)

rising_counted : (i n : ℕ) → Rising (counted i n)
rising_counted i zero = tt
rising_counted i (suc n) = (λ y j. (counted_in_lem y (suc i) n j).0, rising_counted (suc i) n)

pub rising_upto : (i e : ℕ) → Rising (upto i e)
rising_upto i e = rising_counted i (e - i)
