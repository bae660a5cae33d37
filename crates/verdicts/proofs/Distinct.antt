-- Lists in which nothing stands twice. Two of them with no member in common make one; and such a list is no longer than any list
-- that has all of its members, since each place it takes there is taken once.
-- Assumes nothing.
use Prim.Native.Nat.{suc, ◌≤◌, zero-le, suc-le-suc}
use mathlib.Core.Path.{◌≡◌, refl, sym, ◌∙◌, ap, subst}
use mathlib.Core.Logic.{◌⊎◌, ⊎_elim}
use mathlib.Core.Logic.◌⊎◌.{inl, inr}
use mathlib.Core.List.{List, [], ◌∷◌, ◌++◌, map}
use lib.ListN.{length}
use Rattle.kat.specs.Lists.{In, here, there}
use Rattle.kat.proofs.Sets.{in_append, in_append_right, in_map}
use Rattle.verdicts.specs.Verdicts.{Distinct}

module _ {A : Type 0} where
  pub distinct_append : (xs ys : List A) → Distinct xs → Distinct ys → ((x : A) → In x xs → In x ys → ⊥) → Distinct (xs ++ ys)
  distinct_append [] ys p q c = q
  distinct_append (x ∷ xs) ys p q c = (
    (λ i. ⊎_elim p.0 (c x (here refl)) (in_append xs i)),
    distinct_append xs ys p.1 q (λ y i j. c y (there i) j),
  )

  pub distinct_apart : (xs ys : List A) → Distinct (xs ++ ys) → (x : A) → In x xs → In x ys → ⊥
  distinct_apart (y ∷ xs) ys d x (here e) j = d.0 (in_append_right xs (subst (λ z. In z ys) e j))
  distinct_apart (y ∷ xs) ys d x (there i) j = distinct_apart xs ys d.1 x i j
  distinct_apart [] ys d x x5 j = elim x5 [ ]

  pub distinct_second : (xs ys : List A) → Distinct (xs ++ ys) → Distinct ys
  distinct_second [] ys d = d
  distinct_second (x ∷ xs) ys d = distinct_second xs ys d.1

  pub in_long : {x : A} {xs : List A} → In x xs → 1 ≤ length xs
  in_long (here e) = suc-le-suc zero-le
  in_long (there i) = suc-le-suc zero-le

  -- the list without the member at a place
  abbrev without : {x : A} {ys : List A} → In x ys → List A
  without (here {l = ys} e) = ys
  without (there {y = y} i) = y ∷ without i

  length_without : {x : A} {ys : List A} (i : In x ys) → length ys ≡ suc (length (without i))
  length_without (here e) = refl
  length_without (there i) = ap suc (length_without i)

  in_without : {x z : A} {ys : List A} (i : In x ys) → In z ys → (z ≡ x) ⊎ In z (without i)
  in_without (here e) (here e') = inl (e' ∙ sym e)
  in_without (here e) (there j) = inr j
  in_without (there i) (here e') = inr (here e')
  in_without (there i) (there j) = ⊎_elim (λ e. inl e) (λ k. inr (there k)) (in_without i j)

  -- a list of distinct members is no longer than a list that has them all
  pub distinct_no_longer : (xs ys : List A) → Distinct xs → ((x : A) → In x xs → In x ys) → length xs ≤ length ys
  distinct_no_longer [] ys d h = zero-le
  distinct_no_longer (x ∷ xs) ys d h =
      let i : In x ys = h x (here refl) in
      rw (length_without i)
      (suc-le-suc (distinct_no_longer xs (without i) d.1
      (λ z j. ⊎_elim (λ e. absurd (d.0 (subst (λ y. In y xs) e j))) (λ k. k) (in_without i (h z (there j))))))

-- where the images are distinct, a member is settled by its image
module _ {A B : Type 0} (f : A → B) where
  pub settled_by_image : {x y : A} (xs : List A) → Distinct (map f xs) → In x xs → In y xs → f x ≡ f y → x ≡ y
  settled_by_image (z ∷ xs) d (here p) (here q) e = p ∙ sym q
  settled_by_image (z ∷ xs) d (here p) (there j) e =
      absurd (d.0 (subst (λ b. In b (map f xs)) (sym (sym (ap f p) ∙ e)) (in_map f j)))
  settled_by_image (z ∷ xs) d (there i) (here q) e = absurd (d.0 (subst (λ b. In b (map f xs)) (e ∙ ap f q) (in_map f i)))
  settled_by_image (z ∷ xs) d (there i) (there j) e = settled_by_image xs d.1 i j e
  settled_by_image {y = y} [] d x5 _ e = elim x5 [ ]
