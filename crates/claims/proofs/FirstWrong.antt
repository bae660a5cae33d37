-- When a reading refuses at a field, in plain words, for any kind of field: it refuses at the field behind n good ones exactly where the
-- bytes begin with n good fields and not with one more, and are not all that may be read. The idea: the reading stops behind some number
-- of good fields and never before the last of them, and fewer fields are good where more are, so that number is the only one.
-- Assumes nothing.
use Prim.Native.Nat.{ℕ, zero, suc, ◌+◌, ◌-◌, ◌≤◌}
use native.Mathlib.Nat.{eq-or-lt_of_le}
use native.Mathlib.Omega.{arith}
use mathlib.Core.Path.{◌≡◌, refl, sym, ◌∙◌, ap, subst}
use mathlib.Core.Logic.{◌↔◌, ⊎_elim}
use mathlib.Core.List.{List, [], ◌∷◌, ◌++◌}
use Rattle.kat.proofs.Sets.{in_append_left}
use Rattle.verdicts.specs.Verdicts.{Distinct}
use Rattle.claims.specs.Fields.{FirstWrong}
use Rattle.notation.specs.Refusals.{Cause, Refusal, Result, ok, refused, refuse}
use Rattle.notation.proofs.LineOrder.{ok_not_refused, same_refusal}

-- a list that is not empty has a last one
pub last_apart : {A : Type 0} (x : A) (xs : List A) → (ys : List A) × (y : A) × (x ∷ xs ≡ ys ++ (y ∷ []))
last_apart x [] = ([], x, refl)
last_apart x (z ∷ zs) = let (ys, y, e) = last_apart z zs in (x ∷ ys, y, ap (λ l. x ∷ l) e)

-- the front of a distinct list is distinct
pub distinct_front : {A : Type 0} (l m : List A) → Distinct (l ++ m) → Distinct l
distinct_front [] m d = tt
distinct_front (x ∷ xs) m (n, d) = ((λ i. n (in_append_left m i)), distinct_front xs m d)

module _ {A : Type 0} (r : Result A) (c : Cause) (k : ℕ) (good : ℕ → Type 0) (all : Type 0)
    (ok-all : (a : A) → r ≡ ok a → all)
    (all-ok : all → (a : A) × (r ≡ ok a))
    (stops : (x : Refusal) → r ≡ refused x → (n : ℕ) × (r ≡ refuse c (k + n)) × good n)
    (not_before : (n j : ℕ) → good n → r ≡ refuse c j → k + n ≤ j)
    (fewer : (n : ℕ) → good (suc n) → good n) where
  down : (d n : ℕ) → good (d + n) → good n
  down zero n g = let e : 0 + n ≡ n = omega arith in subst good e g
  down (suc d) n g = let e : suc d + n ≡ suc (d + n) = omega arith in down d n (fewer (d + n) (subst good e g))

  pub refused_at : (n : ℕ) → (r ≡ refuse c (k + n)) ↔ FirstWrong good all (suc n)
  refused_at n = (here, λ (g, h, a). there g h a r refl)
    where
      here : r ≡ refuse c (k + n) → FirstWrong good all (suc n)
      here e =
          let (m, f, g) = stops _ e in
          let p : k + m ≡ k + n = (same_refusal (sym f ∙ e)).1 in
          let q : m ≡ n = omega arith in (
            subst good q g,
            (λ h. let l : k + suc n ≤ k + n = not_before (suc n) (k + n) h e in omega arith),
            (λ a. let (x, f) = all-ok a in ok_not_refused x _ (sym f ∙ e)),
          )

      there : good n → (good (suc n) → ⊥) → (all → ⊥) → (s : Result A) → r ≡ s → r ≡ refuse c (k + n)
      there g h a (ok x) e = absurd (a (ok-all x e))
      there g h a (refused x) e =
          let (m, f, i) = stops x e in
          let l : k + n ≤ k + m = not_before n (k + m) g f in
          ⊎_elim (λ q. f ∙ ap (λ z. refuse c (k + z)) (sym q))
          (λ q. absurd (h (down (m - suc n) (suc n) (let p : m ≡ m - suc n + suc n = omega arith in subst good p i))))
          (eq-or-lt_of_le (let z : n ≤ m = omega arith in z))
