-- The pairs that open at an atom, as a sum over the rows of M, from row 0 on.
-- Assumes nothing.
use Prim.Native.Nat.{ℕ, ◌+◌, ◌-◌, ◌*◌, ◌/◌, ◌^◌, ◌≤◌, ◌<◌}
use native.Mathlib.Nat.{pow-suc}
use native.Mathlib.Numerals.{add-one}
use native.Mathlib.Omega.{arith}
use mathlib.Core.Path.{◌≡◌, refl, ◌∙◌, ap}
use mathlib.Core.Bool.{Bool, true, false, cond}
use mathlib.Core.List.{List, ◌∷◌}
use Rattle.kat.specs.Lists.{upto, filter}
use Rattle.claims.specs.Fields.{set_number}
use Rattle.bits.specs.Sets.{meets}
use Rattle.standings.specs.Steps.{enders, ends_set}
use Rattle.standings.proofs.Upto.{upto_more, upto_none}
use Rattle.sheet_standings.specs.RingCells.{row_m, opened}

-- the numbers from p on that pass, as a set
module _ (f : ℕ → Bool) where
  abbrev pub passing : ℕ → ℕ
  passing p = set_number 0 (filter f (upto p 32))

  passing_cons : (p : ℕ) (os : List ℕ) (b : Bool) → f p ≡ b → set_number 0 (filter f (p ∷ os)) ≡ cond b (2 ^ p) 0 + set_number 0 (filter f os)
  unfolding set_number
  passing_cons p os true e =
      let z : p - 0 ≡ p = omega arith in
      ap (λ b. set_number 0 (cond b (p ∷ filter f os) (filter f os))) e ∙ ap (λ k. 2 ^ k + set_number 0 (filter f os)) z
  passing_cons p os false e =
      let z : set_number 0 (filter f os) ≡ 0 + set_number 0 (filter f os) = omega arith in
      ap (λ b. set_number 0 (cond b (p ∷ filter f os) (filter f os))) e ∙ z

  pub passing_more : (p set v : ℕ) → p < 32 → v ≡ cond (f p) (2 ^ p) 0 → (set + v) + passing (p + 1) ≡ set + passing p
  passing_more p set v h e =
      let z : passing p ≡ cond (f p) (2 ^ p) 0 + passing (p + 1) =
      ap (λ os. set_number 0 (filter f os)) (upto_more p 32 h) ∙ passing_cons p (upto (p + 1) 32) (f p) refl in
      omega arith

  pub passing_end : (p set : ℕ) → 32 ≤ p → set + passing p ≡ set
  unfolding set_number
  passing_end p set h = ap (λ os. set + set_number 0 (filter f os)) (upto_none p 32 h) ∙ omega arith

-- a set of numbers below p, and p
pub sum_small : (p set v : ℕ) (b : Bool) → set < 2 ^ p → v ≡ cond b (2 ^ p) 0 → set + v < 2 ^ (p + 1)
sum_small p set v true h e =
    let z : 2 ^ (p + 1) ≡ 2 ^ p * 2 = ap (λ i. 2 ^ i) (add-one p) ∙ pow-suc 2 p in
    omega arith
sum_small p set v false h e =
    let z : 2 ^ (p + 1) ≡ 2 ^ p * 2 = ap (λ i. 2 ^ i) (add-one p) ∙ pow-suc 2 p in
    omega arith

module _ (right s : List ℕ) (a : ℕ) where
  -- a member of row p of M may end at the atom
  abbrev pub row_ends : ℕ → Bool
  row_ends p = ends_set right (row_m s p / 2) a

  pub opened_all : 0 + passing row_ends 0 ≡ opened right s a
  unfolding opened
  opened_all = let z : 0 + passing row_ends 0 ≡ passing row_ends 0 = omega arith in z

  pub row_opens : (p row e v : ℕ) → row ≡ row_m s p → e ≡ enders right a → v ≡ cond (meets (row / 2) e) (2 ^ p) 0
      → v ≡ cond (row_ends p) (2 ^ p) 0
  unfolding ends_set
  row_opens p row e v er ee ev = ev ∙ ap (λ x. cond (meets (x / 2) e) (2 ^ p) 0) er ∙ ap (λ x. cond (meets (row_m s p / 2) x) (2 ^ p) 0) ee
