-- How many bytes in front pass a test, as a loop meets it: one more, none, or the end of the bytes.
-- Assumes nothing.
use Prim.Native.Nat.{ℕ, suc, ◌+◌, ◌≤◌, ◌<◌}
use native.Mathlib.Omega.{arith}
use native.Mathlib.Numerals.{add-one}
use mathlib.Core.Path.{◌≡◌, refl, ap, ◌∙◌}
use mathlib.Core.Bool.{Bool, true, false, cond}
use mathlib.Core.List.{List, [], ◌∷◌}
use lib.ListN.{length, take, drop, get_or, drop_of_length-le, length-drop}
use lib.Seq.{drop-cons}
use Rattle.std.specs.List.{prefix_len}
use Rattle.std.proofs.lemmas.List.Folds.{length-prefix_len}
use Rattle.kat.specs.Lists.{every}
use Rattle.read_tokens.specs.Scan.{front}

module _ (p : ℕ → Bool) where
  pub front_none : (b : ℕ) (bs : List ℕ) → p b ≡ false → front p (b ∷ bs) ≡ 0
  unfolding front
  front_none b bs e = rw e

  pub front_one : (b : ℕ) (bs : List ℕ) → p b ≡ true → front p (b ∷ bs) ≡ suc (front p bs)
  unfolding front
  front_one b bs e = rw e

  pub front_more : (s : List ℕ) (i : ℕ) → i < length s → p (get_or s i 0) ≡ true
      → i + 1 + front p (drop (i + 1) s) ≡ i + front p (drop i s)
  front_more s i h e =
      rw (drop-cons s i 0 h, front_one (get_or s i 0) (drop (suc i) s) e, add-one i) (omega arith)

  pub front_stop : (s : List ℕ) (i : ℕ) → i < length s → p (get_or s i 0) ≡ false → i ≡ i + front p (drop i s)
  front_stop s i h e = rw (drop-cons s i 0 h, front_none (get_or s i 0) (drop (suc i) s) e) (omega arith)

  pub front_end : (s : List ℕ) (i : ℕ) → length s ≤ i → i ≡ i + front p (drop i s)
  unfolding front
  front_end s i h = rw (drop_of_length-le s h) (omega arith)

  front_prefix : (s : List ℕ) → prefix_len p s ≡ front p s
  unfolding front
  front_prefix [] = refl
  front_prefix (b ∷ bs) = let more : 1 + prefix_len p bs ≡ suc (front p bs) = omega (arith, front_prefix bs) in ap (λ n. cond (p b) n 0) more

  pub front_within : (s : List ℕ) → front p s ≤ length s
  unfolding front
  front_within [] = omega arith
  front_within (b ∷ bs) = go (p b) (front_within bs)
    where
      go : (t : Bool) → front p bs ≤ length bs → cond t (suc (front p bs)) 0 ≤ suc (length bs)
      go true h = omega arith
      go false h = omega arith

  -- the count of what `take_while` takes of the bytes behind i
  pub front_taken : (s : List ℕ) (i n : ℕ) → i ≤ length s → n ≡ length (take (prefix_len p (drop i s)) (drop i s))
      → (i + n ≡ i + front p (drop i s)) × (i + n ≤ length s)
  front_taken s i n h e =
      let f : n ≡ front p (drop i s) = e ∙ length-prefix_len p (drop i s) ∙ front_prefix (drop i s) in
      (ap (λ k. i + k) f, omega (arith, f, front_within (drop i s), length-drop i s))

  -- what stands in front passes the test
  pub front_passes : (s : List ℕ) → every p (take (front p s) s) ≡ true
  unfolding front
  front_passes [] = refl
  front_passes (b ∷ bs) = go (p b) refl (front_passes bs)
    where
      go : (t : Bool) → p b ≡ t → every p (take (front p bs) bs) ≡ true → every p (take (cond t (suc (front p bs)) 0) (b ∷ bs)) ≡ true
      go true e h = rw e h
      go false e h = refl

  -- what stands behind it begins with none that does
  pub front_over : (s : List ℕ) (b : ℕ) (bs : List ℕ) → drop (front p s) s ≡ b ∷ bs → p b ≡ false
  unfolding front
  front_over [] b bs h = let z : ◌≡◌ {A = ℕ} 0 1 = cc in absurd (omega arith)
  front_over (c ∷ cs) b bs h = go (p c) refl (front_over cs b bs) h
    where
      go : (t : Bool) → p c ≡ t → (drop (front p cs) cs ≡ b ∷ bs → p b ≡ false)
          → drop (cond t (suc (front p cs)) 0) (c ∷ cs) ≡ b ∷ bs → p b ≡ false
      go true e f h = f h
      go false e f h = let g : c ≡ b = cc in rw (← g) e
