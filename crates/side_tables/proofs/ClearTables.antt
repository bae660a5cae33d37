-- A table that is clear stays clear where no occurrence is added: nothing is joined to nothing, and nothing is cut from it. And past the 64th no
-- occurrence is added.
-- Assumes nothing.
use Prim.Native.Nat.{ℕ, zero, suc, ◌+◌, ◌*◌, ◌-◌, ◌^◌, ◌≤◌}
use mathlib.Core.Path.{◌≡◌, refl, ◌∙◌, ap, ap₂}
use mathlib.Core.Bool.{Bool, true, false, cond}
use mathlib.Core.List.{List, [], ◌∷◌}
use lib.Bits.{bit_and, bit_or}
use lib.ListN.{get_or, set}
use borrow.Author.Tests.{le-ltb}
use Rattle.kat.specs.Lists.{upto}
use Rattle.claims.specs.Query.{bit}
use Rattle.bits.specs.Sets.{members}
use Rattle.memory.specs.Memory.{for_each, zeros}
use Rattle.side_atoms.specs.Atoms.{all_atoms}
use Rattle.side_tables.specs.InPlace.{range_set, put_into, joined_at, joined, kept_if, cut_at, cut, lettered_at, put_at_atom, added, sequenced, iterated}
use Rattle.side_tables.specs.Layout.{ENDS, ROW}

-- a change that changes nothing, for each number
each_still : (g : ℕ → List ℕ → List ℕ) (ws : List ℕ) → ((n : ℕ) → g n ws ≡ ws) → (ns : List ℕ) → for_each g ns ws ≡ ws
unfolding for_each
each_still g ws h [] = refl
each_still g ws h (n ∷ ns) = ap (for_each g ns) (h n) ∙ each_still g ws h ns

zero_word : (n i : ℕ) → get_or (zeros n) i 0 ≡ 0
unfolding zeros
zero_word zero i = refl
zero_word (suc n) zero = refl
zero_word (suc n) (suc i) = zero_word n i

zero_put : (n i : ℕ) → set (zeros n) i 0 ≡ zeros n
unfolding zeros
zero_put zero i = refl
zero_put (suc n) zero = refl
zero_put (suc n) (suc i) = ap (λ l. 0 ∷ l) (zero_put n i)

module _ (n : ℕ) where
  abbrev none : List ℕ
  none = zeros n

  put_none : (base f k : ℕ) → f ≡ 0 → put_into base f k none ≡ none
  unfolding put_into
  put_none base f k e = ap₂ (λ v w. set none (base + k) (bit_or v w)) (zero_word n (base + k)) e ∙ zero_put n (base + k)

  join_none : (from to a : ℕ) → joined_at from to a none ≡ none
  unfolding joined_at
  join_none from to a =
      each_still (put_into (ROW * a + 1) (bit_and (get_or none (ROW * a) 0) to)) none
      (λ k. put_none (ROW * a + 1) (bit_and (get_or none (ROW * a) 0) to) k (ap (λ v. bit_and v to) (zero_word n (ROW * a))))
      (members (bit_and (get_or none (ENDS + a) 0) from))

  pub joined_none : (from to : ℕ) → joined from to none ≡ none
  unfolding joined
  joined_none from to = each_still (joined_at from to) none (join_none from to) (upto 0 64)

  kept_none : (b : Bool) (r v : ℕ) → v ≡ 0 → kept_if b r v ≡ 0
  unfolding kept_if
  kept_none true r v e = e
  kept_none false r v e = ap (λ w. bit_and w (all_atoms - r)) e

  cut_none : (from to x y a : ℕ) → cut_at from to x y a none ≡ none
  unfolding cut_at
  cut_none from to x y a =
      ap (λ u. set u (ENDS + a) (kept_if (bit a y) from (get_or u (ENDS + a) 0)))
      (ap (set none (ROW * a)) (kept_none (bit a x) to (get_or none (ROW * a) 0) (zero_word n (ROW * a))) ∙ zero_put n (ROW * a))
      ∙ ap (set none (ENDS + a)) (kept_none (bit a y) from (get_or none (ENDS + a) 0) (zero_word n (ENDS + a))) ∙ zero_put n (ENDS + a)

  pub sequenced_none : (lo mid hi x y : ℕ) → sequenced lo mid hi x y none ≡ none
  unfolding sequenced cut
  sequenced_none lo mid hi x y =
      ap (λ t. for_each (cut_at (range_set lo mid) (range_set mid hi) x y) (upto 0 64) t) (joined_none (range_set lo mid) (range_set mid hi))
      ∙ each_still (cut_at (range_set lo mid) (range_set mid hi) x y) none (cut_none (range_set lo mid) (range_set mid hi) x y) (upto 0 64)

  pub iterated_none : (lo hi : ℕ) → iterated lo hi none ≡ none
  unfolding iterated
  iterated_none lo hi = joined_none (range_set lo hi) (range_set lo hi)

pub added_past : (k f l g s : ℕ) (t : List ℕ) → 64 ≤ k → added k f l g s t ≡ t
unfolding added
added_past k f l g s t h =
    ap (λ b. cond b (for_each (lettered_at k s) (upto 0 16)
    (for_each (put_at_atom (k + 1) (2 ^ k)) (members g) (for_each (put_into ENDS (2 ^ k)) (members l) (for_each (put_at_atom 0 (2 ^ k)) (members f) t)))) t)
    (le-ltb k 64 h)
