-- The rounds of the closure: a row moved to another event, one event of a round after the other, and one round after the other.
-- Assumes nothing.
use Prim.Native.Nat.{ℕ, zero, suc, ◌+◌, ◌-◌, ◌*◌, ◌/◌, ◌%◌, ◌^◌, ◌≤◌, ◌<◌}
use native.Mathlib.Numerals.{add-one}
use native.Mathlib.Omega.{arith}
use mathlib.Core.Path.{◌≡◌, refl, sym, ◌∙◌, ap, ap₂}
use mathlib.Core.Bool.{Bool, true, false, ◌&&◌, ◌||◌}
use lib.Bits.{bit_and, bit_or, and_mask}
use lib.Dec.{ltb}
use borrow.Author.Tests.{lt-ltb, le-ltb}
use Rattle.small_graphs.specs.Relations.{bit, edge, Edges, over, through}
use Rattle.small_graphs.proofs.Bits.{bit_above, bit-bit_or, bit_up, bit_up_below, bit_down, bit_cut}

-- the row of an event
abbrev pub row_of : ℕ → ℕ → ℕ
row_of r m = bit_and (r / 2 ^ (8 * m)) 255

-- and the row moved to event f
abbrev pub moved : ℕ → ℕ → ℕ → ℕ
moved r m f = row_of r m * 2 ^ (8 * f) % 2 ^ 64

data Order (x f : ℕ) : Type 0 where
  under : x < f → Order x f
  same : x ≡ f → Order x f
  past : f < x → Order x f

order : (x f : ℕ) → Order x f
order zero zero = same refl
order zero (suc f) = under (omega arith)
order (suc x) zero = past (omega arith)
order (suc x) (suc f) = go (order x f)
  where
    go : Order x f → Order (suc x) (suc f)
    go (under h) = under (omega arith)
    go (same h) = same (omega arith)
    go (past h) = past (omega arith)

module _ (r m : ℕ) where
  row_bit : (y : ℕ) → y < 8 → bit y (row_of r m) ≡ edge r m y
  row_bit y h = ap (bit y) (and_mask (r / 2 ^ (8 * m)) 8) ∙ bit_cut 8 y (r / 2 ^ (8 * m)) h ∙ bit_down (8 * m) y r

  row_small : row_of r m < 2 ^ 8
  row_small = omega (arith, and_mask (r / 2 ^ (8 * m)) 8)

  cut : (x y f : ℕ) → x < 8 → y < 8 → edge (moved r m f) x y ≡ edge (row_of r m * 2 ^ (8 * f)) x y
  cut x y f h k = bit_cut 64 (8 * x + y) (row_of r m * 2 ^ (8 * f)) (omega arith)

  moved_here : (x y f : ℕ) → x < 8 → y < 8 → x ≡ f → edge (moved r m f) x y ≡ edge r m y
  moved_here x y f h k e =
      cut x y f h k ∙ ap (λ j. bit (8 * j + y) (row_of r m * 2 ^ (8 * f))) e ∙ bit_up (8 * f) y (row_of r m) ∙ row_bit y k

  moved_under : (x y f : ℕ) → x < 8 → y < 8 → x < f → edge (moved r m f) x y ≡ false
  moved_under x y f h k e = cut x y f h k ∙ bit_up_below (8 * f) (8 * x + y) (row_of r m) (omega arith)

  moved_past : (x y f : ℕ) → x < 8 → y < 8 → f < x → edge (moved r m f) x y ≡ false
  moved_past x y f h k e =
      let s : 8 * x + y ≡ 8 * f + (8 * (x - f) + y) = omega arith in
      cut x y f h k ∙ ap (λ j. bit j (row_of r m * 2 ^ (8 * f))) s ∙ bit_up (8 * f) (8 * (x - f) + y) (row_of r m)
      ∙ bit_above 8 (8 * (x - f) + y) (row_of r m) row_small (omega arith)

  -- the edges after the events below f
  abbrev pub Sofar : ℕ → ℕ → ℕ → Bool
  Sofar f x y = edge r x y || (ltb x f && (edge r x m && edge r m y))

  or_none : (a : Bool) → (a || false) ≡ a
  or_none true = refl
  or_none false = refl

  -- an event that does not lead to m
  pub round_without : (all f new : ℕ) → new ≡ all → edge r f m ≡ false → Edges all (Sofar f) → Edges new (Sofar (f + 1))
  round_without all f new s e g x y h k = ap (λ q. edge q x y) s ∙ g x y h k ∙ go (order x f)
    where
      D : Bool → Bool
      D b = edge r x y || (b && (edge r x m && edge r m y))

      go : Order x f → Sofar f x y ≡ Sofar (f + 1) x y
      go (under l) = ap D (lt-ltb x f l ∙ sym (lt-ltb x (f + 1) (omega arith)))
      go (past l) = ap D (le-ltb x f (omega arith) ∙ sym (le-ltb x (f + 1) (omega arith)))
      go (same l) =
          ap D (le-ltb x f (omega arith)) ∙ ap (λ b. edge r x y || (b && edge r m y)) (sym (ap (λ j. edge r j m) l ∙ e))
          ∙ sym (ap D (lt-ltb x (f + 1) (omega arith)))

  -- an event that does
  pub round_with : (all f new : ℕ) → new ≡ bit_or all (moved r m f) → edge r f m ≡ true → Edges all (Sofar f) → Edges new (Sofar (f + 1))
  round_with all f new s e g x y h k =
      ap (λ q. edge q x y) s ∙ bit-bit_or (8 * x + y) all (moved r m f) ∙ ap (λ b. b || edge (moved r m f) x y) (g x y h k) ∙ go (order x f)
    where
      D : Bool → Bool
      D b = edge r x y || (b && (edge r x m && edge r m y))

      both : (a b : Bool) → ((a || false) || b) ≡ (a || b)
      both true b = refl
      both false b = refl

      go : Order x f → (Sofar f x y || edge (moved r m f) x y) ≡ Sofar (f + 1) x y
      go (under l) =
          ap (λ b. Sofar f x y || b) (moved_under x y f h k l) ∙ or_none (Sofar f x y)
          ∙ ap D (lt-ltb x f l ∙ sym (lt-ltb x (f + 1) (omega arith)))
      go (past l) =
          ap (λ b. Sofar f x y || b) (moved_past x y f h k l) ∙ or_none (Sofar f x y)
          ∙ ap D (le-ltb x f (omega arith) ∙ sym (le-ltb x (f + 1) (omega arith)))
      go (same l) =
          ap₂ ◌||◌ (ap D (le-ltb x f (omega arith))) (moved_here x y f h k l) ∙ both (edge r x y) (edge r m y)
          ∙ ap (λ b. edge r x y || (b && edge r m y)) (sym (ap (λ j. edge r j m) l ∙ e)) ∙ sym (ap D (lt-ltb x (f + 1) (omega arith)))

  -- before the first event, and behind the last
  pub round_start : Edges r (Sofar 0)
  round_start x y h k = sym (or_none (edge r x y)) ∙ ap (λ b. edge r x y || (b && (edge r x m && edge r m y))) (sym (le-ltb x 0 (omega arith)))

  pub round_end : (all f : ℕ) → 8 ≤ f → Edges all (Sofar f) → Edges all (over m (edge r))
  round_end all f l g x y h k =
      g x y h k ∙ ap (λ b. edge r x y || (b && (edge r x m && edge r m y))) (lt-ltb x f (omega arith))

-- one round more
pub rounds_more : (q all r m : ℕ) → m < 8 → Edges all (through m r) → Edges q (over m (edge all)) → Edges q (through (m + 1) r)
rounds_more q all r m h f g x y hx hy =
    g x y hx hy ∙ ap₂ ◌||◌ (f x y hx hy) (ap₂ ◌&&◌ (f x m hx h) (f m y h hy)) ∙ ap (λ k. through k r x y) (sym (add-one m))

pub rounds_end : (all r m : ℕ) → m ≡ 8 → Edges all (through m r) → Edges all (through 8 r)
rounds_end all r m e f x y hx hy = f x y hx hy ∙ ap (λ k. through k r x y) e
