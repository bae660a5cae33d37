-- Places past the end of a table: there is 0, a place clipped to the table's length gives what the place gives, and a part of the table
-- clipped to its length is the part.
-- Assumes nothing.
use Prim.Native.Nat.{ℕ, ◌+◌, ◌-◌, ◌≤◌, ◌<◌, min}
use native.Mathlib.Omega.{arith}
use mathlib.Core.Path.{◌≡◌, sym, ◌∙◌, ap, subst}
use mathlib.Core.Logic.{⊎_elim}
use mathlib.Core.List.{List}
use lib.ListN.{length, get_or, take, drop, length-take, length-drop, get_or-eq_default}
use lib.Seq.{ext_get_or, get_or-take, get_or-drop}
use Rattle.kat.proofs.Bools.{le_or_lt}

-- how long a clipped part is
clipped_inside : (size i n f e : ℕ) → i ≤ size → f ≡ i → e ≡ min (f + n) size → min (e - f) (size - f) ≡ min n (size - i)
clipped_inside size i n f e h p q = omega arith

clipped_past : (size i n f e : ℕ) → size < i → f ≡ size → e ≡ min (f + n) size → min (e - f) (size - f) ≡ min n (size - i)
clipped_past size i n f e h p q = omega arith

clipped_length : (size i n f e : ℕ) → f ≡ min i size → e ≡ min (f + n) size → min (e - f) (size - f) ≡ min n (size - i)
clipped_length size i n f e p q =
    ⊎_elim (λ h. clipped_inside size i n f e h (omega arith) q) (λ h. clipped_past size i n f e h (omega arith) q) (le_or_lt i size)

least_left : (k m n : ℕ) → k < min m n → k < m
least_left k m n h = omega arith

module _ (t : List ℕ) (size : ℕ) (full : length t ≡ size) where
  pub past_end : (i : ℕ) → size ≤ i → get_or t i 0 ≡ 0
  past_end i h = get_or-eq_default t 0 (omega arith)

  -- place i + k, where i is clipped to m
  pub place_clipped : (i k m : ℕ) → m ≡ min i size → get_or t (m + k) 0 ≡ get_or t (i + k) 0
  place_clipped i k m e =
      ⊎_elim (λ h. ap (λ j. get_or t j 0) (omega arith)) (λ h. past_end (m + k) (omega arith) ∙ sym (past_end (i + k) (omega arith)))
      (le_or_lt i size)

  -- the n places from i on, where both ends are clipped
  pub part_clipped : (i n f e : ℕ) → f ≡ min i size → e ≡ min (f + n) size → take (e - f) (drop f t) ≡ take n (drop i t)
  part_clipped i n f e p q =
      ext_get_or 0 (take (e - f) (drop f t)) (take n (drop i t))
      (part_length (e - f) f ∙ clipped_length size i n f e p q ∙ sym (part_length n i))
      (λ k h. inside k (least_left k (e - f) (size - f) (subst (λ m. k < m) (part_length (e - f) f) h))
      (least_left k n (size - i) (subst (λ m. k < m) (part_length (e - f) f ∙ clipped_length size i n f e p q) h)))
    where
      part_length : (m j : ℕ) → length (take m (drop j t)) ≡ min m (size - j)
      part_length m j = length-take m (drop j t) ∙ ap (min m) (length-drop j t ∙ ap (λ w. w - j) full)

      inside : (k : ℕ) → k < e - f → k < n → get_or (take (e - f) (drop f t)) k 0 ≡ get_or (take n (drop i t)) k 0
      inside k h l =
          get_or-take (e - f) (drop f t) k 0 h ∙ get_or-drop f t k 0 ∙ place_clipped i k f p
          ∙ sym (get_or-take n (drop i t) k 0 l ∙ get_or-drop i t k 0)
