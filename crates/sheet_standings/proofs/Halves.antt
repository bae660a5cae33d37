-- A word of 64 bits is its two cells and two cells are a word: what was put into cells is read back, and their word tells cells apart.
-- Assumes nothing.
use Prim.Native.Nat.{ℕ, zero, suc, ◌+◌, ◌*◌, ◌/◌, ◌%◌, ◌^◌, ◌<◌}
use native.Mathlib.Nat.{mod-lt}
use native.Mathlib.Omega.{arith}
use mathlib.Core.Path.{◌≡◌, refl, ap₂}
use mathlib.Core.Bool.{◌&&◌}
use mathlib.Core.List.{List, [], ◌∷◌, ◌++◌}
use lib.Dec.{eqb}
use lib.ListN.{length, get_or}
use borrow.Author.Tests.{eqb-true, eq-eqb}
use Rattle.kat.proofs.Bools.{and_left, and_right, and_both, bool_ext}
use Rattle.sheet_standings.specs.Layout.{halves, wide}

-- the word of cells that were put there, and of those behind them
pub wide_halves : (w : ℕ) (s : List ℕ) → wide (halves w ++ s) 0 ≡ w
unfolding wide halves
wide_halves w s = omega arith

pub wide_behind : (w : ℕ) (s : List ℕ) (i : ℕ) → wide (halves w ++ s) (suc (suc i)) ≡ wide s i
unfolding wide halves
wide_behind w s i = refl

pub wide_next : (c : ℕ) (s : List ℕ) (i : ℕ) → wide (c ∷ s) (suc i) ≡ wide s i
unfolding wide
wide_next c s i = refl

-- the cells of a word, and the cells behind them
pub halves_first : (w : ℕ) (s : List ℕ) → get_or (halves w ++ s) 0 0 ≡ w / 2 ^ 32
unfolding halves
halves_first w s = refl

pub halves_second : (w : ℕ) (s : List ℕ) → get_or (halves w ++ s) 1 0 ≡ w % 2 ^ 32
unfolding halves
halves_second w s = refl

pub halves_behind : (w : ℕ) (s : List ℕ) (i : ℕ) → get_or (halves w ++ s) (suc (suc i)) 0 ≡ get_or s i 0
unfolding halves
halves_behind w s i = refl

pub halves_length : (w : ℕ) (s : List ℕ) → length (halves w ++ s) ≡ suc (suc (length s))
unfolding halves
halves_length w s = refl

-- a word of 64 bits gives two cells of 32, and two such cells a word of 64
pub first_small : (w : ℕ) → w < 2 ^ 64 → w / 2 ^ 32 < 2 ^ 32
first_small w h = omega arith

pub second_small : (w : ℕ) → w % 2 ^ 32 < 2 ^ 32
second_small w = mod-lt w {m = 2 ^ 32} (omega arith)

-- the cells of a word and those behind them are all small
pub halves_small : (w : ℕ) (s : List ℕ) → w < 2 ^ 64 → ((i : ℕ) → get_or s i 0 < 2 ^ 32) → (i : ℕ) → get_or (halves w ++ s) i 0 < 2 ^ 32
unfolding halves
halves_small w s h small zero = first_small w h
halves_small w s h small (suc zero) = second_small w
halves_small w s h small (suc (suc i)) = small i

pub wide_small : (s : List ℕ) (i : ℕ) → get_or s i 0 < 2 ^ 32 → get_or s (suc i) 0 < 2 ^ 32 → wide s i < 2 ^ 64
unfolding wide
wide_small s i h k = omega arith

-- cells that were read as a word are put back
pub wide_first : (s : List ℕ) (i : ℕ) → get_or s (suc i) 0 < 2 ^ 32 → wide s i / 2 ^ 32 ≡ get_or s i 0
unfolding wide
wide_first s i h = omega arith

pub wide_second : (s : List ℕ) (i : ℕ) → get_or s (suc i) 0 < 2 ^ 32 → wide s i % 2 ^ 32 ≡ get_or s (suc i) 0
unfolding wide
wide_second s i h = omega arith

pub halves_wide : (s : List ℕ) (i : ℕ) → get_or s (suc i) 0 < 2 ^ 32 → halves (wide s i) ≡ get_or s i 0 ∷ get_or s (suc i) 0 ∷ []
unfolding halves
halves_wide s i h = ap₂ (λ c d. c ∷ d ∷ []) (wide_first s i h) (wide_second s i h)

-- two words are equal where their cells are
pair_equal : (a b c d : ℕ) → b < 2 ^ 32 → d < 2 ^ 32 → eqb (a * 2 ^ 32 + b) (c * 2 ^ 32 + d) ≡ (eqb a c && eqb b d)
pair_equal a b c d h k =
    bool_ext (eqb (a * 2 ^ 32 + b) (c * 2 ^ 32 + d)) (eqb a c && eqb b d)
    (λ e. let z : a * 2 ^ 32 + b ≡ c * 2 ^ 32 + d = eqb-true (a * 2 ^ 32 + b) (c * 2 ^ 32 + d) e in
    and_both (eq-eqb a c (omega arith)) (eq-eqb b d (omega arith)))
    (λ e. let x : a ≡ c = eqb-true a c (and_left (eqb a c) (eqb b d) e) in
    let y : b ≡ d = eqb-true b d (and_right (eqb a c) (eqb b d) e) in
    eq-eqb (a * 2 ^ 32 + b) (c * 2 ^ 32 + d) (omega arith))

pub wide_equal : (s t : List ℕ) (i : ℕ) → get_or s (suc i) 0 < 2 ^ 32 → get_or t (suc i) 0 < 2 ^ 32
    → eqb (wide s i) (wide t i) ≡ (eqb (get_or s i 0) (get_or t i 0) && eqb (get_or s (suc i) 0) (get_or t (suc i) 0))
unfolding wide
wide_equal s t i h k = pair_equal (get_or s i 0) (get_or s (suc i) 0) (get_or t i 0) (get_or t (suc i) 0) h k
