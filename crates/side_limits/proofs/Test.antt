-- The test of the limits: what is left of it when all but the last is passed, and the bounds that it gives.
-- Assumes nothing.
use Prim.Native.Nat.{ℕ, ◌≤◌}
use native.Mathlib.Omega.{arith}
use mathlib.Core.Path.{◌≡◌, refl, sym}
use mathlib.Core.Bool.{Bool, true, false, cond, ◌&&◌, true≢false}
use lib.Dec.{leb}
use borrow.Author.Tests.{le-leb, leb-true}
use Rattle.kat.proofs.Bools.{false_of_not}
use Rattle.side_limits.specs.declared.Sizes.{Sizes}
use Rattle.side_limits.specs.Sizes.{within_test}

pub all_but_own : (s : Sizes) (r : ℕ) → s.left.occurrences ≤ 64 → s.left.leaves ≤ 512 → r ≡ cond s.ring 31 64
    → s.right.occurrences ≤ r → s.right.leaves ≤ 512 → within_test s ≡ leb s.own 512
unfolding within_test
all_but_own s r a b e c d =
    rw (within_test, ← e, le-leb _ _ a, le-leb _ _ b, le-leb _ _ c, le-leb _ _ d)

-- sizes within the limits
pub record Bounded (s : Sizes) : Type 0 where
  pub left_occurrences : s.left.occurrences ≤ 64
  pub left_leaves : s.left.leaves ≤ 512
  pub right_occurrences : s.right.occurrences ≤ cond s.ring 31 64
  pub right_leaves : s.right.leaves ≤ 512
  pub own_leaves : s.own ≤ 512

pub right_few : (b : Bool) → cond b 31 64 ≤ 64
right_few true = omega arith
right_few false = omega arith

all_five : (a b c d e : Bool) → ((a && b) && (c && d) && e) ≡ true
    → (a ≡ true) × (b ≡ true) × (c ≡ true) × (d ≡ true) × (e ≡ true)
all_five true true true true e h = (refl, refl, refl, refl, h)
all_five true true true false e h = absurd (true≢false (sym h))
all_five true true false d e h = absurd (true≢false (sym h))
all_five true false c d e h = absurd (true≢false (sym h))
all_five false b c d e h = absurd (true≢false (sym h))

pub within_bounds : (s : Sizes) → within_test s ≡ true → Bounded s
unfolding within_test
within_bounds s h =
    let (a, b, c, d, e) =
    all_five (leb s.left.occurrences 64) (leb s.left.leaves 512) (leb s.right.occurrences (cond s.ring 31 64))
    (leb s.right.leaves 512) (leb s.own 512) h
    in
    record {
      left_occurrences = leb-true s.left.occurrences 64 a;
      left_leaves = leb-true s.left.leaves 512 b;
      right_occurrences = leb-true s.right.occurrences (cond s.ring 31 64) c;
      right_leaves = leb-true s.right.leaves 512 d;
      own_leaves = leb-true s.own 512 e;
    }

-- sizes past a limit do not pass
pub over : (s : Sizes) → (Bounded s → ⊥) → within_test s ≡ false
over s h = false_of_not (within_test s) (λ e. h (within_bounds s e))
