-- One turn of a walk of a set by its trailing zeros, for each kind of loop, with m the lowest member of what is left: a search for a
-- member that passes a test, and a union of rows. An empty set ends the walk.
-- Assumes nothing.
use Prim.Native.Nat.{ℕ, zero, suc, ◌-◌, ◌^◌, ◌<◌}
use native.Mathlib.Omega.{arith}
use mathlib.Core.Path.{◌≡◌, refl, sym, ◌∙◌, ap}
use mathlib.Core.Bool.{Bool, true, false, ◌||◌}
use mathlib.Core.List.{List}
use lib.Bits.{bit_and, bit_or, or_zero_r}
use lib.Count.{ones, count_trailing_zeros}
use lib.ListN.{length}
use Rattle.std.proofs.lemmas.Nat.{ones_le_self, zero_from_ones}
use Rattle.kat.specs.Lists.{some}
use Rattle.claims.specs.Fields.{number_set}
use Rattle.bits.specs.Sets.{row, union_over}
use Rattle.bits.proofs.Bit.{or_assoc}
use Rattle.bits.proofs.Members.{number_none}
use Rattle.bits.proofs.Lowest.{Lowest, lowest}

module _ (p : ℕ → Bool) (w : ℕ) where
  -- nothing left
  pub some_end : (s : ℕ) → s ≡ 0 → some p (number_set 0 w s) ≡ false
  some_end s e = ap (λ k. some p (number_set 0 w k)) e ∙ ap (some p) (number_none 0 w)

  -- the lowest member passes, or the rest decides
  pub some_hit : {s : ℕ} → Lowest w s → p (count_trailing_zeros w s) ≡ true → some p (number_set 0 w s) ≡ true
  some_hit {s} l h = ap (some p) l.members ∙ ap (λ b. b || some p (number_set 0 w (bit_and s (s - 1)))) h

  pub some_miss : {s : ℕ} → Lowest w s → p (count_trailing_zeros w s) ≡ false
      → some p (number_set 0 w (bit_and s (s - 1))) ≡ some p (number_set 0 w s)
  some_miss {s} l h = sym (ap (some p) l.members ∙ ap (λ b. b || some p (number_set 0 w (bit_and s (s - 1)))) h)

module _ (rows : List ℕ) (w : ℕ) where
  pub union_end : (s all : ℕ) → s ≡ 0 → bit_or all (union_over rows (number_set 0 w s)) ≡ all
  unfolding union_over
  union_end s all e =
      ap (λ k. bit_or all (union_over rows (number_set 0 w k))) e
      ∙ ap (λ l. bit_or all (union_over rows l)) (number_none 0 w) ∙ or_zero_r all

  -- the lowest member's row r is added to the union so far
  pub union_more : {s : ℕ} → Lowest w s → (all r : ℕ) → r ≡ row rows (count_trailing_zeros w s)
      → bit_or (bit_or all r) (union_over rows (number_set 0 w (bit_and s (s - 1)))) ≡ bit_or all (union_over rows (number_set 0 w s))
  unfolding union_over
  union_more {s} l all r e =
      or_assoc all r (union_over rows (number_set 0 w (bit_and s (s - 1))))
      ∙ ap (λ k. bit_or all (bit_or k (union_over rows (number_set 0 w (bit_and s (s - 1)))))) e
      ∙ sym (ap (λ ks. bit_or all (union_over rows ks)) l.members)

-- as many members as ones: what a walk's measure counts
pub members_counted : (w s : ℕ) → s < 2 ^ w → length (number_set 0 w s) ≡ ones s
members_counted w s h = go (ones s) s h refl
  where
    go : (n s : ℕ) → s < 2 ^ w → ones s ≡ n → length (number_set 0 w s) ≡ ones s
    go zero s h e = let z : s ≡ 0 = zero_from_ones s e in ap (λ k. length (number_set 0 w k)) z ∙ ap length (number_none 0 w) ∙ sym e
    go (suc n) s h e =
        let l = lowest w s h (λ z. absurd (omega (arith, e, ap ones z, ones_le_self 0))) in
        let fewer : ones (bit_and s (s - 1)) ≡ n = omega (arith, l.count, e) in
        ap length l.members ∙ ap suc (go n (bit_and s (s - 1)) (omega (arith, l.less, h)) fewer) ∙ sym l.count
