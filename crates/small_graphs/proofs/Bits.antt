-- Bits of a word: of a union, of one edge more, of a row of 8 bits taken out and moved to another place.
-- Assumes nothing.
use Prim.Native.Nat.{ℕ, zero, suc, ◌+◌, ◌*◌, ◌/◌, ◌%◌, ◌^◌, ◌≤◌, ◌<◌, max}
use native.Mathlib.Nat.{one-mul, pow-suc, pow-succ', div-one, div-div-eq-div-mul}
use native.Mathlib.Omega.{arith}
use mathlib.Core.Path.{◌≡◌, refl, sym, ◌∙◌, ap, ap₂}
use mathlib.Core.Logic.{◌⊎◌}
use mathlib.Core.Logic.◌⊎◌.{inl, inr}
use mathlib.Core.Bool.{false, ◌||◌}
use lib.Bits.{bit_and, bit_or, or_step, and_mask}
use lib.Dec.{eqb}
use lib.Pow.{field, mod-mod-pow, shl_exact}
use borrow.Author.Tests.{lt-ltb, le-ltb}
use Rattle.small_graphs.specs.Relations.{bit, with_edge}

bit_zero : (m : ℕ) → bit 0 m ≡ eqb (m % 2) 1
unfolding bit
bit_zero m = ap (λ k. eqb (k % 2) 1) (div-one m)

bit_suc : (i m : ℕ) → bit (suc i) m ≡ bit i (m / 2)
unfolding bit
bit_suc i m = ap (λ k. eqb (k % 2) 1) (ap (λ k. m / k) (pow-succ' 2 i) ∙ sym (div-div-eq-div-mul m 2 (2 ^ i)))

-- the lowest digit
digit : (n : ℕ) → (n % 2 ≡ 0) ⊎ (n % 2 ≡ 1)
digit n = go (n % 2) refl
  where
    go : (d : ℕ) → n % 2 ≡ d → (n % 2 ≡ 0) ⊎ (n % 2 ≡ 1)
    go zero e = inl e
    go (suc zero) e = inr e
    go (suc (suc d)) e = absurd (omega arith)

bit_none : (i : ℕ) → bit i 0 ≡ false
bit_none zero = bit_zero 0
bit_none (suc i) = bit_suc i 0 ∙ bit_none i

-- no bit above the width
pub bit_above : (w i m : ℕ) → m < 2 ^ w → w ≤ i → bit i m ≡ false
bit_above zero i m h k = let e : m ≡ 0 = omega arith in ap (bit i) e ∙ bit_none i
bit_above (suc w) zero m h k = absurd (omega arith)
bit_above (suc w) (suc i) m h k =
    bit_suc i m ∙ bit_above w i (m / 2) (omega (arith, pow-suc 2 w)) (omega arith)

-- of a union
pub bit-bit_or : (i a b : ℕ) → bit i (bit_or a b) ≡ (bit i a || bit i b)
bit-bit_or zero a b =
    let e : bit_or a b % 2 ≡ max (a % 2) (b % 2) = omega (arith, or_step a b) in
    bit_zero (bit_or a b) ∙ ap (λ d. eqb d 1) e ∙ go (digit a) (digit b) ∙ sym (ap₂ ◌||◌ (bit_zero a) (bit_zero b))
  where
    go : (a % 2 ≡ 0) ⊎ (a % 2 ≡ 1) → (b % 2 ≡ 0) ⊎ (b % 2 ≡ 1) → eqb (max (a % 2) (b % 2)) 1 ≡ (eqb (a % 2) 1 || eqb (b % 2) 1)
    go (inl p) (inl q) = rw (p, q)
    go (inl p) (inr q) = rw (p, q)
    go (inr p) (inl q) = rw (p, q)
    go (inr p) (inr q) = rw (p, q)
bit-bit_or (suc i) a b =
    let e : bit_or a b / 2 ≡ bit_or (a / 2) (b / 2) = omega (arith, or_step a b) in
    bit_suc i (bit_or a b) ∙ ap (bit i) e ∙ bit-bit_or i (a / 2) (b / 2) ∙ sym (ap₂ ◌||◌ (bit_suc i a) (bit_suc i b))

halved : (m w : ℕ) → m * 2 ^ suc w / 2 ≡ m * 2 ^ w
halved m w = ap (λ k. m * k / 2) (pow-suc 2 w) ∙ omega arith

-- of a number moved up, moved down, and cut off
pub bit_up : (w i m : ℕ) → bit (w + i) (m * 2 ^ w) ≡ bit i m
bit_up zero i m = ap₂ bit (omega arith) (omega arith)
bit_up (suc w) i m =
    ap (λ j. bit j (m * 2 ^ suc w)) (omega arith) ∙ bit_suc (w + i) (m * 2 ^ suc w) ∙ ap (bit (w + i)) (halved m w) ∙ bit_up w i m

pub bit_up_below : (w i m : ℕ) → i < w → bit i (m * 2 ^ w) ≡ false
bit_up_below zero i m h = absurd (omega arith)
bit_up_below (suc w) zero m h =
    let e : m * 2 ^ suc w % 2 ≡ 0 = ap (λ k. m * k % 2) (pow-suc 2 w) ∙ omega arith in
    bit_zero (m * 2 ^ suc w) ∙ ap (λ d. eqb d 1) e
bit_up_below (suc w) (suc i) m h =
    bit_suc i (m * 2 ^ suc w) ∙ ap (bit i) (halved m w) ∙ bit_up_below w i m (omega arith)

pub bit_down : (w i m : ℕ) → bit i (m / 2 ^ w) ≡ bit (w + i) m
bit_down zero i m = ap₂ bit (omega arith) (omega arith)
bit_down (suc w) i m =
    let e : m / 2 ^ suc w ≡ m / 2 / 2 ^ w =
    ap (λ k. m / k) (omega (arith, pow-suc 2 w)) ∙ sym (div-div-eq-div-mul m 2 (2 ^ w)) in
    ap (bit i) e ∙ bit_down w i (m / 2) ∙ sym (bit_suc (w + i) m) ∙ ap (λ j. bit j m) (omega arith)

pub bit_cut : (w i m : ℕ) → i < w → bit i (m % 2 ^ w) ≡ bit i m
bit_cut zero i m h = absurd (omega arith)
bit_cut (suc w) zero m h =
    let z : suc w ≡ w + 1 = omega arith in
    bit_zero (m % 2 ^ suc w) ∙ ap (λ k. eqb (m % 2 ^ k % 2) 1) z ∙ ap (λ d. eqb d 1) (mod-mod-pow m w 1) ∙ sym (bit_zero m)
bit_cut (suc w) (suc i) m h =
    let z : suc w ≡ w + 1 = omega arith in
    bit_suc i (m % 2 ^ suc w) ∙ ap (λ k. bit i (m % 2 ^ k / 2)) z ∙ ap (bit i) (field m w 1) ∙ bit_cut w i (m / 2) (omega arith)
    ∙ sym (bit_suc i m)

-- the lowest bit of the rest
pub bit_rest : (r k : ℕ) → eqb (bit_and (r / 2 ^ k) 1) 1 ≡ bit k r
unfolding bit
bit_rest r k = ap (λ d. eqb d 1) (and_mask (r / 2 ^ k) 1)

-- one edge more, where the events are below 8 and where they are not
pub edge_more : (r x y : ℕ) → x < 8 → y < 8 → bit_or r (1 * 2 ^ (8 * x + y) % 2 ^ 64) ≡ with_edge r x y
unfolding with_edge
edge_more r x y h k =
    let e : 1 * 2 ^ (8 * x + y) % 2 ^ 64 ≡ 2 ^ (8 * x + y) =
    shl_exact {a = 1} 1 (8 * x + y) 64 (omega arith) (omega arith) ∙ one-mul (2 ^ (8 * x + y)) in
    ap (bit_or r) e ∙ rw (lt-ltb x 8 h, lt-ltb y 8 k)

pub edge_from : (r x y : ℕ) → 8 ≤ x → r ≡ with_edge r x y
unfolding with_edge
edge_from r x y h = rw (le-ltb x 8 h)

pub edge_to : (r x y : ℕ) → x < 8 → 8 ≤ y → r ≡ with_edge r x y
unfolding with_edge
edge_to r x y h k = rw (lt-ltb x 8 h, le-ltb y 8 k)
