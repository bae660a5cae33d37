-- A completed ring is covered by its cells exactly where the standing that they show is covered, so that both complete refuting words with
-- the same atoms. (Document 01, "Standings".) The turns are the same closure, since the tests of M agree; no turn leads to 0, and no pair
-- is one of 0, so that the definition's range from 0 on and the cells' from 1 on find the same.
-- Assumes nothing.
use Prim.Native.Nat.{ℕ, zero, suc, ◌-◌, ◌≤◌, ◌<◌, min}
use native.Mathlib.Omega.{arith}
use mathlib.Core.Path.{◌≡◌, sym, ◌∙◌, ap, ap₂}
use mathlib.Core.Bool.{true, false, cond, not, ◌&&◌, ◌||◌}
use mathlib.Core.List.{List, [], ◌∷◌}
use lib.Dec.{eqb}
use lib.ListN.{length}
use Rattle.kat.specs.Lists.{upto, some, member}
use Rattle.kat.specs.Closure.{Table, entry, closure}
use Rattle.kat.specs.Tables.{occurrences, stop, ends}
use Rattle.kat.proofs.Bools.{true_not_false, and_left, and_right, and_both}
use Rattle.kat.proofs.Sets.{some_in, at_upto}
use Rattle.claims.specs.Query.{bit}
use Rattle.claims.specs.Fields.{set_number, number_set}
use Rattle.claims.specs.Sides.{Decision}
use Rattle.claims.specs.Standings.{Ring, row, states, covered}
use Rattle.claims.specs.Standings as ring
use Rattle.claims.proofs.SetBytes.{RisingWithin, bit_zero}
use Rattle.bits.proofs.Bit.{bit_none}
use Rattle.bits.proofs.Members.{bit_number, member_number, some_number}
use Rattle.side_tables.specs.SideTable.{side_table}
use Rattle.standings.specs.Steps.{enders}
use Rattle.standings.proofs.Tables.{ends_bit, ends_shown}
use Rattle.standings.proofs.Turns.{closure_same, closure_zero}
use Rattle.standings.proofs.Upto.{some_range}
use Rattle.sheet_standings.specs.Layout.{wide}
use Rattle.sheet_standings.specs.RingCells.{first_in, flag_in, row_m, row_n, in_m, turn_ends, pair_turns, ring_covered, ring_finals, ring_shown}
use Rattle.sheet_standings.specs.Good.{GoodCells}
use Rattle.sheet_standings.proofs.RingFits.{RingFacts}
use Rattle.sheet_standings.proofs.RingParts.{good_size, good_facts, shown_m, shown_n, flag_test}

module _ (D : Decision) (few : occurrences D.right ≤ 31) (atoms : D.atoms ≤ 64) (s : List ℕ) (good : GoodCells true D s) where
  abbrev n : ℕ
  n = occurrences D.right

  abbrev right : List ℕ
  right = side_table D.right

  abbrev shown : Ring
  shown = ring_shown D s

  abbrev turns : Table
  turns = closure (suc n) (in_m s)

  size : length s ≡ 67
  size = good_size D s good

  facts : RingFacts D.atoms (occurrences D.left) n s
  facts = good_facts D s good

  first_low : first_in s < 64
  first_low = omega (arith, facts.first_low)

  -- the turns of the cells are those of the standing, and none leads to 0
  turns_shown : closure (suc n) (λ p q. member q (row shown.M p)) ≡ turns
  unfolding in_m
  turns_shown =
      closure_same (suc n) (λ p q. member q (row shown.M p)) (in_m s)
      (λ p q h k. ap (λ t. member q (row t p)) (shown_m D s size few)
      ∙ ap (member q) (at_upto (λ p. number_set 0 (suc n) (row_m s p)) [] (suc n) p h)
      ∙ member_number 0 (suc n) (row_m s p) q (omega arith) k ∙ ap (λ i. bit i (row_m s p)) (omega arith))

  turns_none : entry turns 0 0 ≡ false
  unfolding in_m
  turns_none =
      closure_zero (suc n) (in_m s)
      (λ x h. bit_zero (row_m s x) ∙ ap (λ k. eqb k 1) (facts.M-even x (omega arith))) 0

  ends_turn : turn_ends right n s turns ≡ some (λ q. entry turns 0 q && stop D.right q (first_in s)) (upto 0 (suc n))
  unfolding turn_ends
  ends_turn =
      some_range (λ q. entry turns 0 q && bit (q - 1) (enders right (first_in s)))
      (λ q. entry turns 0 q && stop D.right q (first_in s)) 1 (suc n) 0 (suc n)
      (λ q a b e. (
        omega arith,
        b,
        and_both (and_left (entry turns 0 q) _ e)
            (sym (ends_bit D.right (first_in s) q first_low a b) ∙ and_right (entry turns 0 q) _ e),
      ))
      back
    where
      back : (q : ℕ) → 0 ≤ q → q < suc n → (entry turns 0 q && stop D.right q (first_in s)) ≡ true
          → (1 ≤ q) × (q < suc n) × ((entry turns 0 q && bit (q - 1) (enders right (first_in s))) ≡ true)
      back zero a b e = absurd (true_not_false (and_left (entry turns 0 0) _ e) turns_none)
      back (suc q) a b e = (
        omega arith,
        b,
        and_both (and_left (entry turns 0 (suc q)) _ e)
            (ends_bit D.right (first_in s) (suc q) first_low (omega arith) b ∙ and_right (entry turns 0 (suc q)) _ e),
      )

  -- a pair of row q that some turns join
  listed : (q : ℕ) → q < suc n
      → some (λ p. bit p (row_n s q) && (eqb q p || entry turns q p)) (upto 0 (suc n))
      ≡ some (λ p. eqb q p || entry turns q p) (row shown.N q)
  listed q b =
      sym (ap (λ t. some (λ p. eqb q p || entry turns q p) (row t q)) (shown_n D s size few)
      ∙ ap (some (λ p. eqb q p || entry turns q p)) (at_upto (λ q. number_set 0 (suc n) (row_n s q)) [] (suc n) q b)
      ∙ some_number (λ p. eqb q p || entry turns q p) 0 (suc n) (row_n s q)
      ∙ some_range (λ p. bit (p - 0) (row_n s q) && (eqb q p || entry turns q p)) (λ p. bit p (row_n s q) && (eqb q p || entry turns q p))
      0 (suc n) 0 (suc n)
      (λ p x y e. (x, y, ap (λ i. bit i (row_n s q) && (eqb q p || entry turns q p)) (omega arith) ∙ e))
      (λ p x y e. (x, y, ap (λ i. bit i (row_n s q) && (eqb q p || entry turns q p)) (omega arith) ∙ e)))

  pairs_turn : pair_turns n s turns ≡ some (λ q. some (λ p. eqb q p || entry turns q p) (row shown.N q)) (upto 0 (suc n))
  unfolding pair_turns
  pairs_turn =
      some_range (λ q. some (λ p. bit p (row_n s q) && (eqb q p || entry turns q p)) (upto 0 (suc n)))
      (λ q. some (λ p. eqb q p || entry turns q p) (row shown.N q)) 1 (suc n) 0 (suc n)
      (λ q a b e. (omega arith, b, sym (listed q b) ∙ e))
      (λ q a b e. let (p, i, t) = some_in (λ p. bit p (row_n s q) && (eqb q p || entry turns q p)) (upto 0 (suc n)) (listed q b ∙ e) in
      (above q p (and_left (bit p (row_n s q)) _ t), b, listed q b ∙ e))
    where
      above : (q p : ℕ) → bit p (row_n s q) ≡ true → 1 ≤ q
      above zero p e = absurd (true_not_false e (ap (bit p) facts.N-none ∙ bit_none p))
      above (suc q) p e = omega arith

  pub ring_covered_shown : ring_covered right n s ≡ covered D shown
  unfolding ring_covered covered states
  ring_covered_shown =
      let z : min n 31 ≡ n = omega arith in
      ap (λ m. not (eqb (flag_in s) 0) || turn_ends right m s (closure (suc m) (in_m s)) || pair_turns m s (closure (suc m) (in_m s))) z
      ∙ ap₂ (λ x y. not (eqb (flag_in s) 0) || x || y) ends_turn pairs_turn
      ∙ ap₂ (λ b t. b || some (λ q. entry t 0 q && stop D.right q (first_in s)) (upto 0 (suc n))
      || some (λ q. some (λ p. eqb q p || entry t q p) (row shown.N q)) (upto 0 (suc n)))
      (flag_test (flag_in s) facts.flag_low) (sym turns_shown)

  -- the atoms with which it completes a refuting word; the live atoms as a set
  pub ring_finals_shown : RisingWithin 0 64 D.live
      → ring_finals (side_table D.left) right n (set_number 0 D.live) s ≡ ring.ring_finals D shown
  unfolding ring_finals ring.ring_finals
  ring_finals_shown live =
      let z : first_in s ≡ first_in s - 0 = omega arith in
      ap₂ (λ x y. cond (x && y && not (ring_covered right n s)) (first_in s ∷ []) [])
      (ap (λ k. bit k (set_number 0 D.live)) z ∙ bit_number 0 64 D.live live (first_in s) (omega arith) first_low)
      (ends_shown D.left (first_in s) (wide s 1) first_low facts.P-small)
      ∙ ap (λ b. cond (member (first_in s) D.live && ends D.left shown.P (first_in s) && not b) (first_in s ∷ []) [])
      ring_covered_shown
