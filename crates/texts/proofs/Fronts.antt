-- The front of a text, as long as its bytes are as a test says: how long it is from a place on, and that front and back are its two parts.
-- Assumes nothing.
use Prim.Native.Nat.{ℕ, suc, ◌+◌, ◌≤◌, ◌<◌}
use native.Mathlib.Omega.{arith}
use native.Mathlib.Numerals.{add-one}
use mathlib.Core.Path.{◌≡◌, refl, sym, ◌∙◌, ap}
use mathlib.Core.Bool.{Bool, true, false, cond}
use mathlib.Core.List.{List, [], ◌∷◌}
use lib.ListN.{length, get_or, take, drop, drop_of_length-le}
use lib.Seq.{drop-cons}
use Rattle.texts.specs.Lines.{front, back}

module _ (p : ℕ → Bool) where
  at_place : (t : List ℕ) (i : ℕ) → i < length t → front p (drop i t) ≡ cond (p (get_or t i 0)) (get_or t i 0 ∷ front p (drop (suc i) t)) []
  unfolding front
  at_place t i h = ap (front p) (drop-cons t i 0 h)

  -- a byte more
  pub front_more : (t : List ℕ) (i : ℕ) → i < length t → p (get_or t i 0) ≡ true
      → i + 1 + length (front p (drop (i + 1) t)) ≡ i + length (front p (drop i t))
  front_more t i h e =
      let s : length (front p (drop i t)) ≡ suc (length (front p (drop (i + 1) t))) =
      ap length (at_place t i h)
      ∙ ap (λ (b : Bool). length (cond b (get_or t i 0 ∷ front p (drop (suc i) t)) [])) e
      ∙ ap (λ (j : ℕ). suc (length (front p (drop j t)))) (sym (add-one i)) in
      omega arith

  -- a byte that is not as p says, and the end of the text
  pub front_stop : (t : List ℕ) (i : ℕ) → i < length t → p (get_or t i 0) ≡ false → i ≡ i + length (front p (drop i t))
  front_stop t i h e =
      let s : length (front p (drop i t)) ≡ 0 =
      ap length (at_place t i h) ∙ ap (λ (b : Bool). length (cond b (get_or t i 0 ∷ front p (drop (suc i) t)) [])) e in
      omega arith

  pub front_end : (t : List ℕ) (i : ℕ) → length t ≤ i → i ≡ i + length (front p (drop i t))
  unfolding front
  front_end t i h =
      let s : length (front p (drop i t)) ≡ 0 = ap (λ (bs : List ℕ). length (front p bs)) (drop_of_length-le t {i = i} h) in
      omega arith

  pub front_short : (bs : List ℕ) → length (front p bs) ≤ length bs
  unfolding front
  front_short [] = omega arith
  front_short (b ∷ bs) = go (p b) (front_short bs)
    where
      go : (c : Bool) → length (front p bs) ≤ length bs → length (cond c (b ∷ front p bs) []) ≤ suc (length bs)
      go true h = omega arith
      go false h = omega arith

  pub take_front : (bs : List ℕ) → take (length (front p bs)) bs ≡ front p bs
  unfolding front
  take_front [] = refl
  take_front (b ∷ bs) = go (p b) (take_front bs)
    where
      go : (c : Bool) → take (length (front p bs)) bs ≡ front p bs → take (length (cond c (b ∷ front p bs) [])) (b ∷ bs) ≡ cond c (b ∷ front p bs) []
      go true h = ap (λ (cs : List ℕ). b ∷ cs) h
      go false h = refl

  pub drop_front : (bs : List ℕ) → drop (length (front p bs)) bs ≡ back p bs
  unfolding front back
  drop_front [] = refl
  drop_front (b ∷ bs) = go (p b) (drop_front bs)
    where
      go : (c : Bool) → drop (length (front p bs)) bs ≡ back p bs → drop (length (cond c (b ∷ front p bs) [])) (b ∷ bs) ≡ cond c (back p bs) (b ∷ bs)
      go true h = h
      go false h = refl
