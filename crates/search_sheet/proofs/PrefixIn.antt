-- The prefix of a place in memory: more letters than the number of the place change nothing, so the prefix of a standing is its parent's with
-- its letter behind; and a memory that keeps the entries of the search has their prefixes.
-- Assumes nothing.
use Prim.Native.Nat.{ℕ, zero, suc, ◌+◌, ◌/◌, ◌%◌, ◌≤◌, ◌<◌}
use native.Mathlib.Omega.{arith}
use mathlib.Core.Path.{◌≡◌, refl, sym, ◌∙◌, ap}
use mathlib.Core.Bool.{Bool}
use mathlib.Core.List.{List}
use Rattle.kat.specs.Ring.{Prefix, nothing, then}
use Rattle.claims.specs.Verdicts.{relations_in}
use Rattle.search_store.specs.Store.{parent_at, letter_at, prefix_at, Holds}
use Rattle.search_sheet.specs.SheetWords.{Falling, prefix_within, prefix_in}

module _ (ring : Bool) (r : List (List ℕ)) (w : List ℕ) (n : ℕ) (falls : Falling ring r w n) where
  -- enough letters
  prefix_enough : (f g place : ℕ) → place ≤ n → place ≤ f → place ≤ g → prefix_within ring r w f place ≡ prefix_within ring r w g place
  unfolding prefix_within
  prefix_enough zero zero zero h a b = refl
  prefix_enough zero (suc g) zero h a b = refl
  prefix_enough (suc f) zero zero h a b = refl
  prefix_enough (suc f) (suc g) zero h a b = refl
  prefix_enough zero g (suc i) h a b = absurd (omega arith)
  prefix_enough (suc f) zero (suc i) h a b = absurd (omega arith)
  prefix_enough (suc f) (suc g) (suc i) h a b =
      let k : parent_at ring r w i ≤ i = falls i (omega arith) in
      ap (λ l. then l (letter_at ring r w i / 16) (letter_at ring r w i % 16))
      (prefix_enough f g (parent_at ring r w i) (omega arith) (omega arith) (omega arith))

  -- the prefix that a standing ends is that of its parent, and its letter
  pub prefix_more : (i : ℕ) → i < n
      → prefix_in ring r w (i + 1) ≡ then (prefix_in ring r w (parent_at ring r w i)) (letter_at ring r w i / 16) (letter_at ring r w i % 16)
  unfolding prefix_in prefix_within
  prefix_more i h =
      let z : i + 1 ≡ suc i = omega arith in
      let k : parent_at ring r w i ≤ i = falls i h in
      ap (λ p. prefix_within ring r w p p) z
      ∙ ap (λ l. then l (letter_at ring r w i / 16) (letter_at ring r w i % 16))
      (prefix_enough i (parent_at ring r w i) (parent_at ring r w i) (omega arith) (omega arith) (omega arith))

  pub relations_more : (i : ℕ) → i < n → relations_in (prefix_in ring r w (i + 1)) ≡ suc (relations_in (prefix_in ring r w (parent_at ring r w i)))
  relations_more i h = ap relations_in (prefix_more i h)

pub prefix_none : (ring : Bool) (r : List (List ℕ)) (w : List ℕ) → prefix_in ring r w 0 ≡ nothing
unfolding prefix_in prefix_within
prefix_none ring r w = refl

-- a memory that keeps entries has their prefixes
module _ {ring : Bool} {r : List (List ℕ)} {w : List ℕ} {n : ℕ} {ss : List (List ℕ)} {ps : List Prefix} (h : Holds ring r w n ss ps) where
  pub holds_falls : Falling ring r w n
  holds_falls = h.parent

  within_kept : (f place : ℕ) → place ≤ f → place ≤ n → prefix_within ring r w f place ≡ prefix_at ps place
  unfolding prefix_within prefix_at
  within_kept zero zero a b = refl
  within_kept zero (suc i) a b = absurd (omega arith)
  within_kept (suc f) zero a b = refl
  within_kept (suc f) (suc i) a b =
      let k : parent_at ring r w i ≤ i = h.parent i (omega arith) in
      ap (λ l. then l (letter_at ring r w i / 16) (letter_at ring r w i % 16)) (within_kept f (parent_at ring r w i) (omega arith) (omega arith))
      ∙ sym (h.prefix i (omega arith))

  -- the prefix of a place is that of the entry
  pub prefix_kept : (place : ℕ) → place ≤ n → prefix_in ring r w place ≡ prefix_at ps place
  unfolding prefix_in
  prefix_kept place b = within_kept place place (omega arith) b
