-- The bits of a number: of a union, an intersection, one bit alone and all bits below a place; no bit stands above the number's
-- width; and two numbers with the same bits are equal, so every law of sets is one of truth values, bit by bit. The idea throughout:
-- bit 0 is the remainder by 2, and the bits above it are those of the half.
-- Assumes nothing.
use Prim.Native.Nat.{ℕ, zero, suc, ◌+◌, ◌-◌, ◌/◌, ◌%◌, ◌^◌, ◌≤◌, ◌<◌, min, max}
use native.Mathlib.Nat.{pow-suc, pow-le-pow_right}
use native.Mathlib.Omega.{arith}
use mathlib.Core.Path.{◌≡◌, refl, sym, ◌∙◌, ap, ap₂}
use mathlib.Core.Logic.{◌⊎◌}
use mathlib.Core.Logic.◌⊎◌.{inl, inr}
use mathlib.Core.Bool
use mathlib.Core.Bool.{Bool, false, ◌&&◌, ◌||◌, true≢false}
use lib.Bits.{bit_and, bit_or, and_step, or_step}
use lib.Dec.{eqb, ltb, leb-zero, leb-suc-zero, leb-suc-suc, eqb-zero-suc, eqb-suc-zero, eqb-suc-suc}
use lib.Pow.{pow_pos}
use Rattle.claims.specs.Query.{bit}
use Rattle.claims.proofs.SetBytes.{bit_zero, bit_suc}

-- the lowest digit
pub digit : (n : ℕ) → (n % 2 ≡ 0) ⊎ (n % 2 ≡ 1)
digit n = go (n % 2) refl
  where
    go : (d : ℕ) → n % 2 ≡ d → (n % 2 ≡ 0) ⊎ (n % 2 ≡ 1)
    go zero e = inl e
    go (suc zero) e = inr e
    go (suc (suc d)) e = absurd (omega arith)

-- what a bit says of the digit
pub digit_of_bit : (a b : ℕ) → bit 0 a ≡ bit 0 b → a % 2 ≡ b % 2
digit_of_bit a b e = go (digit a) (digit b)
  where
    tests : eqb (a % 2) 1 ≡ eqb (b % 2) 1
    tests = sym (bit_zero a) ∙ e ∙ bit_zero b

    go : (a % 2 ≡ 0) ⊎ (a % 2 ≡ 1) → (b % 2 ≡ 0) ⊎ (b % 2 ≡ 1) → a % 2 ≡ b % 2
    go (inl p) (inl q) = p ∙ sym q
    go (inl p) (inr q) = absurd (true≢false (sym (ap (λ d. eqb d 1) (sym p) ∙ tests ∙ ap (λ d. eqb d 1) q)))
    go (inr p) (inl q) = absurd (true≢false (ap (λ d. eqb d 1) (sym p) ∙ tests ∙ ap (λ d. eqb d 1) q))
    go (inr p) (inr q) = p ∙ sym q

-- the empty set
pub bit_none : (i : ℕ) → bit i 0 ≡ false
bit_none zero = bit_zero 0
bit_none (suc i) = bit_suc i 0 ∙ bit_none i

-- no bit above the width
pub bit_above : (w i m : ℕ) → m < 2 ^ w → w ≤ i → bit i m ≡ false
bit_above zero i m h k = let e : m ≡ 0 = omega arith in ap (bit i) e ∙ bit_none i
bit_above (suc w) zero m h k = absurd (omega arith)
bit_above (suc w) (suc i) m h k =
    bit_suc i m ∙ bit_above w i (m / 2) (omega (arith, pow-suc 2 w)) (omega arith)

-- halves and lowest digits of unions and intersections
pub or_half : (a b : ℕ) → bit_or a b / 2 ≡ bit_or (a / 2) (b / 2)
or_half a b = omega (arith, or_step a b)

pub or_digit : (a b : ℕ) → bit_or a b % 2 ≡ max (a % 2) (b % 2)
or_digit a b = omega (arith, or_step a b)

pub and_half : (a b : ℕ) → bit_and a b / 2 ≡ bit_and (a / 2) (b / 2)
and_half a b = omega (arith, and_step a b)

pub and_digit : (a b : ℕ) → bit_and a b % 2 ≡ min (a % 2) (b % 2)
and_digit a b = omega (arith, and_step a b)

pub bit-bit_or : (i a b : ℕ) → bit i (bit_or a b) ≡ (bit i a || bit i b)
bit-bit_or zero a b =
    bit_zero (bit_or a b) ∙ ap (λ d. eqb d 1) (or_digit a b) ∙ go (digit a) (digit b) ∙ sym (ap₂ ◌||◌ (bit_zero a) (bit_zero b))
  where
    go : (a % 2 ≡ 0) ⊎ (a % 2 ≡ 1) → (b % 2 ≡ 0) ⊎ (b % 2 ≡ 1) → eqb (max (a % 2) (b % 2)) 1 ≡ (eqb (a % 2) 1 || eqb (b % 2) 1)
    go (inl p) (inl q) = rw (p, q)
    go (inl p) (inr q) = rw (p, q)
    go (inr p) (inl q) = rw (p, q)
    go (inr p) (inr q) = rw (p, q)
bit-bit_or (suc i) a b =
    bit_suc i (bit_or a b) ∙ ap (bit i) (or_half a b) ∙ bit-bit_or i (a / 2) (b / 2) ∙ sym (ap₂ ◌||◌ (bit_suc i a) (bit_suc i b))

pub bit-bit_and : (i a b : ℕ) → bit i (bit_and a b) ≡ (bit i a && bit i b)
bit-bit_and zero a b =
    bit_zero (bit_and a b) ∙ ap (λ d. eqb d 1) (and_digit a b) ∙ go (digit a) (digit b) ∙ sym (ap₂ ◌&&◌ (bit_zero a) (bit_zero b))
  where
    go : (a % 2 ≡ 0) ⊎ (a % 2 ≡ 1) → (b % 2 ≡ 0) ⊎ (b % 2 ≡ 1) → eqb (min (a % 2) (b % 2)) 1 ≡ (eqb (a % 2) 1 && eqb (b % 2) 1)
    go (inl p) (inl q) = rw (p, q)
    go (inl p) (inr q) = rw (p, q)
    go (inr p) (inl q) = rw (p, q)
    go (inr p) (inr q) = rw (p, q)
bit-bit_and (suc i) a b =
    bit_suc i (bit_and a b) ∙ ap (bit i) (and_half a b) ∙ bit-bit_and i (a / 2) (b / 2) ∙ sym (ap₂ ◌&&◌ (bit_suc i a) (bit_suc i b))

-- one bit alone
pub bit_pow : (i k : ℕ) → bit i (2 ^ k) ≡ eqb i k
bit_pow zero zero = bit_zero 1
bit_pow zero (suc k) =
    let e : 2 ^ suc k % 2 ≡ 0 = omega (arith, pow-suc 2 k) in
    bit_zero (2 ^ suc k) ∙ ap (λ d. eqb d 1) e ∙ sym (eqb-zero-suc k)
bit_pow (suc i) zero = bit_suc i 1 ∙ bit_none i ∙ sym (eqb-suc-zero i)
bit_pow (suc i) (suc k) =
    let e : 2 ^ suc k / 2 ≡ 2 ^ k = omega (arith, pow-suc 2 k) in
    bit_suc i (2 ^ suc k) ∙ ap (bit i) e ∙ bit_pow i k ∙ sym (eqb-suc-suc i k)

-- all bits below n
pub bit_ones : (i n : ℕ) → bit i (2 ^ n - 1) ≡ ltb i n
bit_ones i zero = bit_none i ∙ sym (leb-suc-zero i)
bit_ones zero (suc n) =
    let e : (2 ^ suc n - 1) % 2 ≡ 1 = omega (arith, pow-suc 2 n, pow_pos n) in
    bit_zero (2 ^ suc n - 1) ∙ ap (λ d. eqb d 1) e ∙ sym (leb-suc-suc zero n ∙ leb-zero n)
bit_ones (suc i) (suc n) =
    let e : (2 ^ suc n - 1) / 2 ≡ 2 ^ n - 1 = omega (arith, pow-suc 2 n, pow_pos n) in
    bit_suc i (2 ^ suc n - 1) ∙ ap (bit i) e ∙ bit_ones i n ∙ sym (leb-suc-suc (suc i) n)

-- two numbers below 2 ^ w with the same bits below w are equal
pub bit_ext : (w a b : ℕ) → a < 2 ^ w → b < 2 ^ w → ((i : ℕ) → i < w → bit i a ≡ bit i b) → a ≡ b
bit_ext zero a b h k e = omega arith
bit_ext (suc w) a b h k e =
    let low : a % 2 ≡ b % 2 = digit_of_bit a b (e 0 (omega arith)) in
    let high : a / 2 ≡ b / 2 =
    bit_ext w (a / 2) (b / 2) (omega (arith, pow-suc 2 w)) (omega (arith, pow-suc 2 w))
    (λ i l. sym (bit_suc i a) ∙ e (suc i) (omega arith) ∙ bit_suc i b) in
    omega arith

-- every number has a width
pub below_pow : (n : ℕ) → n < 2 ^ n
below_pow zero = omega arith
below_pow (suc n) = omega (arith, below_pow n, pow-suc 2 n)

-- two numbers with the same bits are equal
pub bits_equal : (a b : ℕ) → ((i : ℕ) → bit i a ≡ bit i b) → a ≡ b
bits_equal a b e =
    bit_ext (a + b) a b
    (omega (arith, below_pow a, pow-le-pow_right {n = 2} (omega arith) {i = a} {j = a + b} (omega arith)))
    (omega (arith, below_pow b, pow-le-pow_right {n = 2} (omega arith) {i = b} {j = a + b} (omega arith)))
    (λ i l. e i)

pub or_assoc : (a b c : ℕ) → bit_or (bit_or a b) c ≡ bit_or a (bit_or b c)
or_assoc a b c =
    bits_equal (bit_or (bit_or a b) c) (bit_or a (bit_or b c))
    (λ i. rw (bit-bit_or i (bit_or a b) c, bit-bit_or i a b, bit-bit_or i a (bit_or b c), bit-bit_or i b c) (Bool.or_assoc (bit i a) (bit i b) (bit i c)))

pub and_assoc : (a b c : ℕ) → bit_and (bit_and a b) c ≡ bit_and a (bit_and b c)
and_assoc a b c =
    bits_equal (bit_and (bit_and a b) c) (bit_and a (bit_and b c))
    (λ i. rw (bit-bit_and i (bit_and a b) c, bit-bit_and i a b, bit-bit_and i a (bit_and b c), bit-bit_and i b c) (Bool.and_assoc (bit i a) (bit i b) (bit i c)))

-- intersection goes over a union
pub and_or : (a b c : ℕ) → bit_and a (bit_or b c) ≡ bit_or (bit_and a b) (bit_and a c)
and_or a b c =
    bits_equal (bit_and a (bit_or b c)) (bit_or (bit_and a b) (bit_and a c))
    (λ i. rw (bit-bit_and i a (bit_or b c), bit-bit_or i b c, bit-bit_or i (bit_and a b) (bit_and a c), bit-bit_and i a b, bit-bit_and i a c)
    (Bool.and-or_distrib_left (bit i a) (bit i b) (bit i c)))
