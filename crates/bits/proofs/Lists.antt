-- Tests over lists: picking twice is picking by both tests; some member passes exactly where something is picked.
-- Assumes nothing.
use mathlib.Core.Path.{◌≡◌, refl, ◌∙◌, ap}
use mathlib.Core.Bool.{Bool, true, false, cond, not, ◌&&◌, ◌||◌}
use mathlib.Core.List.{List, [], ◌∷◌, map}
use Rattle.kat.specs.Lists.{is_empty, filter, some}

four : (a b c d : Bool) → ((a || b) || (c || d)) ≡ ((a || c) || (b || d))
four true b c d = refl
four false true true d = refl
four false true false d = refl
four false false c d = refl

module _ {A : Type 0} where
  -- picked twice
  pub filter_filter : (p q : A → Bool) (l : List A) → filter q (filter p l) ≡ filter (λ x. p x && q x) l
  filter_filter p q [] = refl
  filter_filter p q (x ∷ xs) = go (p x) (filter_filter p q xs)
    where
      go : (b : Bool) → filter q (filter p xs) ≡ filter (λ y. p y && q y) xs
          → filter q (cond b (x ∷ filter p xs) (filter p xs))
          ≡ cond (b && q x) (x ∷ filter (λ y. p y && q y) xs) (filter (λ y. p y && q y) xs)
      go true e = ap (λ l. cond (q x) (x ∷ l) l) e
      go false e = e

  -- found among those picked
  pub some_filter : (p q : A → Bool) (l : List A) → some q (filter p l) ≡ some (λ x. p x && q x) l
  some_filter p q [] = refl
  some_filter p q (x ∷ xs) = go (p x) (some_filter p q xs)
    where
      go : (b : Bool) → some q (filter p xs) ≡ some (λ y. p y && q y) xs
          → some q (cond b (x ∷ filter p xs) (filter p xs)) ≡ ((b && q x) || some (λ y. p y && q y) xs)
      go true e = ap (λ c. q x || c) e
      go false e = e

  -- one of two tests
  pub some_either : (p q : A → Bool) (l : List A) → some (λ x. p x || q x) l ≡ (some p l || some q l)
  some_either p q [] = refl
  some_either p q (x ∷ xs) = ap (λ c. (p x || q x) || c) (some_either p q xs) ∙ four (p x) (q x) (some p xs) (some q xs)

  pub some_filled : (p : A → Bool) (l : List A) → some p l ≡ not (is_empty (filter p l))
  some_filled p [] = refl
  some_filled p (x ∷ xs) = go (p x) (some_filled p xs)
    where
      go : (b : Bool) → some p xs ≡ not (is_empty (filter p xs))
          → (b || some p xs) ≡ not (is_empty (cond b (x ∷ filter p xs) (filter p xs)))
      go true e = refl
      go false e = e

  pub some_map : {B : Type 0} (f : B → A) (p : A → Bool) (l : List B) → some p (map f l) ≡ some (λ x. p (f x)) l
  some_map f p [] = refl
  some_map f p (x ∷ xs) = ap (λ c. p (f x) || c) (some_map f p xs)
