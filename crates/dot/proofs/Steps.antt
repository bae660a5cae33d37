-- Which edges are steps of the word, by the tests.
-- Assumes nothing.
use Prim.Native.Nat.{ℕ, ◌+◌, ◌*◌, ◌≤◌, ◌<◌}
use mathlib.Core.Path.{◌≡◌}
use mathlib.Core.Bool.{false}
use mathlib.Core.List.{List}
use lib.Dec.{eqb}
use lib.ListN.{length, get_or}
use borrow.Author.Tests.{le-leb, lt-leb, eq-eqb, ne_eqb}
use Rattle.dot.specs.DotText.{is_step}

module _ (w : List ℕ) (count r from to : ℕ) where
  pub step_none : length w ≤ 2 * from + 1 → false ≡ is_step w count r from to
  unfolding is_step
  step_none h = rw (le-leb (length w) (2 * from + 1) h)

  pub step_other : 2 * from + 1 < length w → (get_or w (2 * from + 1) 0 ≡ r → ⊥) → false ≡ is_step w count r from to
  unfolding is_step
  step_other h n = rw (lt-leb (length w) (2 * from + 1) h, ne_eqb (get_or w (2 * from + 1) 0) r n)

  pub step_last : 2 * from + 1 < length w → get_or w (2 * from + 1) 0 ≡ r → from + 1 ≡ count → eqb to 0 ≡ is_step w count r from to
  unfolding is_step
  step_last h e k =
      rw (lt-leb (length w) (2 * from + 1) h, eq-eqb (get_or w (2 * from + 1) 0) r e, eq-eqb (from + 1) count k)

  pub step_next : 2 * from + 1 < length w → get_or w (2 * from + 1) 0 ≡ r → (from + 1 ≡ count → ⊥) → eqb to (from + 1) ≡ is_step w count r from to
  unfolding is_step
  step_next h e k =
      rw (lt-leb (length w) (2 * from + 1) h, eq-eqb (get_or w (2 * from + 1) 0) r e, ne_eqb (from + 1) count k)
