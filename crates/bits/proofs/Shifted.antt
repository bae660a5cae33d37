-- Bits of a number moved up, moved down, and cut off.
-- Assumes nothing.
use Prim.Native.Nat.{ℕ, zero, suc, ◌+◌, ◌*◌, ◌/◌, ◌%◌, ◌^◌, ◌<◌}
use native.Mathlib.Nat.{pow-suc, div-div-eq-div-mul}
use native.Mathlib.Omega.{arith}
use mathlib.Core.Path.{◌≡◌, sym, ◌∙◌, ap, ap₂}
use mathlib.Core.Bool.{false}
use lib.Dec.{eqb}
use lib.Pow.{field, mod-mod-pow}
use Rattle.claims.specs.Query.{bit}
use Rattle.claims.proofs.SetBytes.{bit_zero, bit_suc}

halved : (m w : ℕ) → m * 2 ^ suc w / 2 ≡ m * 2 ^ w
halved m w = ap (λ k. m * k / 2) (pow-suc 2 w) ∙ omega arith

-- bits of a number moved up, moved down, and cut off
pub bit_up : (w i m : ℕ) → bit (w + i) (m * 2 ^ w) ≡ bit i m
bit_up zero i m = ap₂ bit (omega arith) (omega arith)
bit_up (suc w) i m =
    ap (λ j. bit j (m * 2 ^ suc w)) (omega arith) ∙ bit_suc (w + i) (m * 2 ^ suc w) ∙ ap (bit (w + i)) (halved m w) ∙ bit_up w i m

pub bit_up_below : (w i m : ℕ) → i < w → bit i (m * 2 ^ w) ≡ false
bit_up_below zero i m h = absurd (omega arith)
bit_up_below (suc w) zero m h =
    let e : m * 2 ^ suc w % 2 ≡ 0 = ap (λ k. m * k % 2) (pow-suc 2 w) ∙ omega arith in
    bit_zero (m * 2 ^ suc w) ∙ ap (λ d. eqb d 1) e
bit_up_below (suc w) (suc i) m h =
    bit_suc i (m * 2 ^ suc w) ∙ ap (bit i) (halved m w) ∙ bit_up_below w i m (omega arith)

pub bit_down : (w i m : ℕ) → bit i (m / 2 ^ w) ≡ bit (w + i) m
bit_down zero i m = ap₂ bit (omega arith) (omega arith)
bit_down (suc w) i m =
    let e : m / 2 ^ suc w ≡ m / 2 / 2 ^ w =
    ap (λ k. m / k) (omega (arith, pow-suc 2 w)) ∙ sym (div-div-eq-div-mul m 2 (2 ^ w)) in
    ap (bit i) e ∙ bit_down w i (m / 2) ∙ sym (bit_suc (w + i) m) ∙ ap (λ j. bit j m) (omega arith)

pub bit_cut : (w i m : ℕ) → i < w → bit i (m % 2 ^ w) ≡ bit i m
bit_cut zero i m h = absurd (omega arith)
bit_cut (suc w) zero m h =
    let z : suc w ≡ w + 1 = omega arith in
    bit_zero (m % 2 ^ suc w) ∙ ap (λ k. eqb (m % 2 ^ k % 2) 1) z ∙ ap (λ d. eqb d 1) (mod-mod-pow m w 1) ∙ sym (bit_zero m)
bit_cut (suc w) (suc i) m h =
    let z : suc w ≡ w + 1 = omega arith in
    bit_suc i (m % 2 ^ suc w) ∙ ap (λ k. bit i (m % 2 ^ k / 2)) z ∙ ap (bit i) (field m w 1) ∙ bit_cut w i (m / 2) (omega arith)
    ∙ sym (bit_suc i m)
