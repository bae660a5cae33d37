-- Rows of a table that is made by a function of the row's number: the row, its length, and nothing past the last one.
-- Assumes nothing.
use Prim.Native.Nat.{ℕ, zero, suc, ◌≤◌, ◌<◌}
use native.Mathlib.Omega.{arith}
use mathlib.Core.Path.{◌≡◌, refl, ◌∙◌, subst}
use mathlib.Core.List.{List, [], ◌∷◌, map}
use lib.ListN.{length, get_or, length-map}
use Rattle.kat.specs.Lists.{upto, In}
use Rattle.kat.proofs.Sets.{at_upto, upto_length}

module _ {A : Type 0} where
  pub row_made : (f : ℕ → List A) (n k : ℕ) → k < n → get_or (map f (upto 0 n)) k [] ≡ f k
  row_made f n k h = at_upto f [] n k h

  pub rows_made : (f : ℕ → List A) (n : ℕ) → length (map f (upto 0 n)) ≡ n
  rows_made f n = length-map (upto 0 n) f ∙ upto_length n

  -- a row that the table lacks is empty
  pub row_past : (t : List (List A)) (k : ℕ) → length t ≤ k → get_or t k [] ≡ []
  row_past [] k h = refl
  row_past (r ∷ t) zero h = absurd (omega arith)
  row_past (r ∷ t) (suc k) h = row_past t k (omega arith)

  pub row_mapped : (g : List A → List A) (t : List (List A)) (k : ℕ) → k < length t → get_or (map g t) k [] ≡ g (get_or t k [])
  row_mapped g [] k h = absurd (omega arith)
  row_mapped g (r ∷ t) zero h = refl
  row_mapped g (r ∷ t) (suc k) h = row_mapped g t k (omega arith)

  pub nothing_in_empty : {x : A} {l : List A} → l ≡ [] → In x l → ⊥
  nothing_in_empty {x} e i = none (subst (In x) e i)
    where
      none : In x [] → ⊥
      none i = elim i [ ]
