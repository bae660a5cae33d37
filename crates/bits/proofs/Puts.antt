-- A number put into a set of numbers below 64, or not: its bit, the other bits, and how large the set is.
-- Assumes nothing.
use Prim.Native.Nat.{ℕ, ◌+◌, ◌*◌, ◌^◌, ◌<◌}
use native.Mathlib.Nat.{pow-suc}
use native.Mathlib.Numerals.{add-one}
use native.Mathlib.Omega.{arith}
use mathlib.Core.Path.{◌≡◌, refl, sym, ◌∙◌, ap, subst}
use mathlib.Core.Bool.{Bool, true, false, cond, ◌||◌}
use lib.Bits.{bit_or, or_lt}
use borrow.Author.Tests.{lt-ltb, eq-eqb, ne_eqb}
use Rattle.claims.specs.Query.{bit}
use Rattle.bits.specs.Sets.{including}
use Rattle.bits.proofs.Bit.{bit-bit_or, bit_pow}

or-false : (b : Bool) → (b || false) ≡ b
or-false true = refl
or-false false = refl

or_true : (b : Bool) → (b || true) ≡ true
or_true true = refl
or_true false = refl

-- a number put into a set: it is there, and of the others nothing changes
pub bit_put : (w k : ℕ) (b : Bool) → k < 64 → bit k w ≡ false → bit k (cond b (including 64 w k) w) ≡ b
unfolding including
bit_put w k true h e =
    ap (λ c. bit k (cond c (bit_or w (2 ^ k)) w)) (lt-ltb k 64 h) ∙ bit-bit_or k w (2 ^ k)
    ∙ ap (λ c. bit k w || c) (bit_pow k k ∙ eq-eqb k k refl) ∙ or_true (bit k w)
bit_put w k false h e = e

pub bit_kept : (w k i : ℕ) (b : Bool) → k < 64 → (i ≡ k → ⊥) → bit i (cond b (including 64 w k) w) ≡ bit i w
unfolding including
bit_kept w k i true h n =
    ap (λ c. bit i (cond c (bit_or w (2 ^ k)) w)) (lt-ltb k 64 h) ∙ bit-bit_or i w (2 ^ k)
    ∙ ap (λ c. bit i w || c) (bit_pow i k ∙ ne_eqb i k n) ∙ or-false (bit i w)
bit_kept w k i false h n = refl

-- the set stays below the next power
pub put_small : (w k : ℕ) (b : Bool) → k < 64 → w < 2 ^ k → cond b (including 64 w k) w < 2 ^ (k + 1)
unfolding including
put_small w k true h e =
    let z : 2 ^ (k + 1) ≡ 2 ^ k * 2 = ap (λ i. 2 ^ i) (add-one k) ∙ pow-suc 2 k in
    subst (λ c. cond c (bit_or w (2 ^ k)) w < 2 ^ (k + 1)) (sym (lt-ltb k 64 h)) (or_lt (k + 1) w (2 ^ k) (omega arith) (omega arith))
put_small w k false h e =
    let z : 2 ^ (k + 1) ≡ 2 ^ k * 2 = ap (λ i. 2 ^ i) (add-one k) ∙ pow-suc 2 k in
    omega arith
