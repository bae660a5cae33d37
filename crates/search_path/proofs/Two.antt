-- The first two of a list of words: written, the two stand in front of what stood behind them; and read.
-- Assumes nothing.
use Prim.Native.Nat.{ℕ, ◌≤◌}
use native.Mathlib.Omega.{arith}
use mathlib.Core.Path.{◌≡◌, refl}
use mathlib.Core.List.{List, [], ◌∷◌}
use lib.ListN.{length, get_or, take, drop, set}
use lib.Seq.{get_or-take}

pub two_written : (l : List ℕ) (p s : ℕ) → 2 ≤ length l
    → (take 2 (set (set l 0 p) 1 s) ≡ p ∷ s ∷ []) × (drop 2 (set (set l 0 p) 1 s) ≡ drop 2 l)
two_written [] p s h = absurd (omega arith)
two_written (x ∷ []) p s h = absurd (omega arith)
two_written (x ∷ y ∷ l) p s h = (refl, refl)

pub first_read : (l : List ℕ) → get_or (take 2 l) 0 0 ≡ get_or l 0 0
first_read l = get_or-take 2 l 0 0 (omega arith)

pub second_read : (l : List ℕ) → get_or (take 2 l) 1 0 ≡ get_or l 1 0
second_read l = get_or-take 2 l 1 0 (omega arith)
