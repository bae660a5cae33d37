-- The bits of a range, and a set that is kept or cut.
-- Assumes nothing.
use Prim.Native.Nat.{ℕ, ◌-◌, ◌^◌, ◌≤◌, ◌<◌, min}
use native.Mathlib.Omega.{arith}
use mathlib.Core.Path.{◌≡◌, sym, ◌∙◌, ap, ap₂}
use mathlib.Core.Logic.{⊎_elim}
use mathlib.Core.Bool.{Bool, true, false, not, ◌&&◌, ◌||◌, and-true, and-false}
use lib.Bits.{and_lt}
use lib.Dec.{ltb}
use borrow.Author.Tests.{lt-ltb, le-ltb}
use Rattle.kat.proofs.Bools.{le_or_lt}
use Rattle.claims.specs.Query.{bit}
use Rattle.bits.specs.Sets.{all_below}
use Rattle.bits.proofs.Bit.{bit-bit_and}
use Rattle.bits.proofs.Rows.{bit_all, all_below_lem}
use Rattle.side_atoms.specs.Atoms.{all_atoms}
use Rattle.side_atoms.proofs.Atoms.{bit_not}
use Rattle.side_tables.specs.InPlace.{range_set, kept_if}

pub range_small : (lo hi : ℕ) → range_set lo hi < 2 ^ 64
unfolding range_set
range_small lo hi = and_lt 64 (all_below 64 hi) (all_atoms - all_below 64 lo) (all_below_lem 64 hi) (omega arith)

module _ (lo hi q : ℕ) where
  range_bit : q < 64 → bit q (range_set lo hi) ≡ (ltb q (min hi 64) && not (ltb q (min lo 64)))
  unfolding range_set
  range_bit h =
      bit-bit_and q (all_below 64 hi) (all_atoms - all_below 64 lo)
      ∙ ap₂ ◌&&◌ (bit_all 64 hi q) (bit_not 64 q (all_below 64 lo) (all_below_lem 64 lo) h ∙ ap not (bit_all 64 lo q))

  pub range_in : lo ≤ q → q < hi → q < 64 → bit q (range_set lo hi) ≡ true
  range_in a b h = range_bit h ∙ ap₂ (λ x y. x && not y) (lt-ltb q (min hi 64) (omega arith)) (le-ltb q (min lo 64) (omega arith))

  pub range_below : q < lo → q < 64 → bit q (range_set lo hi) ≡ false
  range_below a h =
      range_bit h ∙ ap (λ y. ltb q (min hi 64) && not y) (lt-ltb q (min lo 64) (omega arith)) ∙ and-false (ltb q (min hi 64))

  pub range_above : hi ≤ q → bit q (range_set lo hi) ≡ false
  unfolding range_set
  range_above a =
      bit-bit_and q (all_below 64 hi) (all_atoms - all_below 64 lo)
      ∙ ap (λ x. x && bit q (all_atoms - all_below 64 lo)) (bit_all 64 hi q ∙ le-ltb q (min hi 64) (omega arith))

-- a set of numbers below 64, kept or cut
pub kept_bit : (b : Bool) (r s q : ℕ) → r < 2 ^ 64 → (64 ≤ q → bit q s ≡ false) → bit q (kept_if b r s) ≡ (bit q s && (b || not (bit q r)))
unfolding kept_if
kept_bit true r s q h above = sym (and-true (bit q s))
kept_bit false r s q h above =
    bit-bit_and q s (all_atoms - r)
    ∙ ⊎_elim
    (λ e. ap (λ b. b && bit q (all_atoms - r)) (above e) ∙ sym (ap (λ b. b && not (bit q r)) (above e)))
    (λ e. ap (λ b. bit q s && b) (bit_not 64 q r h e))
    (le_or_lt 64 q)
