-- A completed ring is covered by its words exactly where the standing that they show is covered, so that both complete refuting words with
-- the same atoms. (Document 01, "Standings".) The turns are the same closure, since the tests of M agree; no turn leads to 0, and no pair
-- is one of 0, so that the definition's range from 0 on and the words' from 1 on find the same.
-- Assumes nothing.
use Prim.Native.Nat.{ℕ, zero, suc, ◌-◌, ◌≤◌, ◌<◌, min}
use native.Mathlib.Omega.{arith}
use mathlib.Core.Path.{◌≡◌, sym, ◌∙◌, ap, ap₂}
use mathlib.Core.Bool.{true, cond, not, ◌&&◌, ◌||◌}
use mathlib.Core.List.{List, [], ◌∷◌}
use lib.Dec.{eqb}
use lib.ListN.{get_or}
use Rattle.kat.specs.Lists.{upto, some, member}
use Rattle.kat.specs.Closure.{Table, entry, closure}
use Rattle.kat.specs.Tables.{occurrences, stop, ends}
use Rattle.kat.proofs.Bools.{true_not_false, and_left, and_right, and_both}
use Rattle.kat.proofs.Sets.{some_in, at_upto}
use Rattle.claims.specs.Query.{bit}
use Rattle.claims.specs.Fields.{set_number}
use Rattle.claims.specs.Sides.{Decision}
use Rattle.claims.specs.Standings.{Ring, row, states, covered}
use Rattle.claims.specs.Standings as ring
use Rattle.claims.proofs.SetBytes.{RisingWithin}
use Rattle.bits.proofs.Lists.{some_filter}
use Rattle.bits.proofs.Members.{bit_number}
use Rattle.side_atoms.proofs.Atoms.{member_filter}
use Rattle.side_tables.specs.SideTable.{side_table}
use Rattle.standings.specs.Steps.{enders}
use Rattle.search_standings.specs.RingWords.{in_m, in_n, turn_ends, pair_turns, ring_covered, ring_finals}
use Rattle.standings.proofs.Tables.{ends_bit, ends_shown}
use Rattle.standings.proofs.Upto.{some_range}
use Rattle.standings.proofs.Turns.{closure_same, closure_zero}
use Rattle.search_standings.proofs.RingShown.{row_m, row_n, ring_shown, GoodRing, in_n_from}
use Rattle.search_standings.proofs.RingRows.{in_m_none, row_m_states}

module _ (D : Decision) (few : occurrences D.right ≤ 31) (u : List ℕ) (good : GoodRing (occurrences D.left) (occurrences D.right) u) where
  abbrev n : ℕ
  n = occurrences D.right

  abbrev shown : Ring
  shown = ring_shown (occurrences D.left) n u

  abbrev turns : Table
  turns = closure (suc n) (in_m u)

  turns_shown : closure (suc n) (λ p q. member q (row shown.M p)) ≡ turns
  unfolding ring_shown
  turns_shown =
      closure_same (suc n) (λ p q. member q (row shown.M p)) (in_m u)
      (λ p q h k. ap (member q) (at_upto (row_m n u) [] (suc n) p h ∙ row_m_states n u p) ∙ member_filter (in_m u p) 0 (suc n) q (omega arith) k)

  ends_turn : turn_ends (side_table D.right) n u turns ≡ some (λ q. entry turns 0 q && stop D.right q (get_or u 32 0)) (upto 0 (suc n))
  unfolding turn_ends
  ends_turn =
      some_range (λ q. entry turns 0 q && bit (q - 1) (enders (side_table D.right) (get_or u 32 0)))
      (λ q. entry turns 0 q && stop D.right q (get_or u 32 0)) 1 (suc n) 0 (suc n)
      (λ q a b e. (
        omega arith,
        b,
        and_both (and_left (entry turns 0 q) _ e)
            (sym (ends_bit D.right (get_or u 32 0) q good.first_small a b) ∙ and_right (entry turns 0 q) _ e),
      ))
      back
    where
      back : (q : ℕ) → 0 ≤ q → q < suc n → (entry turns 0 q && stop D.right q (get_or u 32 0)) ≡ true
          → (1 ≤ q) × (q < suc n) × ((entry turns 0 q && bit (q - 1) (enders (side_table D.right) (get_or u 32 0))) ≡ true)
      back zero a b e =
          absurd (true_not_false (and_left (entry turns 0 0) _ e) (closure_zero (suc n) (in_m u) (λ x h. in_m_none u x) 0))
      back (suc q) a b e = (
        omega arith,
        b,
        and_both (and_left (entry turns 0 (suc q)) _ e)
            (ends_bit D.right (get_or u 32 0) (suc q) good.first_small (omega arith) b ∙ and_right (entry turns 0 (suc q)) _ e),
      )

  pairs_turn : pair_turns n u turns ≡ some (λ q. some (λ p. eqb q p || entry turns q p) (row shown.N q)) (upto 0 (suc n))
  unfolding pair_turns ring_shown row_n
  pairs_turn =
      some_range (λ q. some (λ p. in_n u q p && (eqb q p || entry turns q p)) (upto 0 (suc n)))
      (λ q. some (λ p. eqb q p || entry turns q p) (row shown.N q)) 1 (suc n) 0 (suc n)
      (λ q a b e. (omega arith, b, sym (listed q b) ∙ e))
      (λ q a b e. let (p, i, t) = some_in (λ p. in_n u q p && (eqb q p || entry turns q p)) (upto 0 (suc n)) (listed q b ∙ e) in
      (in_n_from u q p (and_left (in_n u q p) _ t), b, listed q b ∙ e))
    where
      listed : (q : ℕ) → q < suc n
          → some (λ p. in_n u q p && (eqb q p || entry turns q p)) (upto 0 (suc n)) ≡ some (λ p. eqb q p || entry turns q p) (row shown.N q)
      listed q b =
          sym (some_filter (in_n u q) (λ p. eqb q p || entry turns q p) (upto 0 (suc n)))
          ∙ ap (some (λ p. eqb q p || entry turns q p)) (sym (at_upto (row_n n u) [] (suc n) q b))

  pub ring_covered_shown : ring_covered (side_table D.right) n u ≡ covered D shown
  unfolding ring_covered covered states ring_shown
  ring_covered_shown =
      let z : min n 31 ≡ n = omega arith in
      ap (λ m. not (eqb (get_or u 33 0) 0) || turn_ends (side_table D.right) m u (closure (suc m) (in_m u))
      || pair_turns m u (closure (suc m) (in_m u))) z
      ∙ ap₂ (λ x y. not (eqb (get_or u 33 0) 0) || x || y) ends_turn pairs_turn
      ∙ ap (λ t. not (eqb (get_or u 33 0) 0) || some (λ q. entry t 0 q && stop D.right q (get_or u 32 0)) (upto 0 (suc n))
      || some (λ q. some (λ p. eqb q p || entry t q p) (row shown.N q)) (upto 0 (suc n))) (sym turns_shown)

  -- the atoms with which it completes a refuting word; the live atoms as a set
  pub ring_finals_shown : RisingWithin 0 64 D.live
      → ring_finals (side_table D.left) (side_table D.right) n (set_number 0 D.live) u ≡ ring.ring_finals D shown
  unfolding ring_finals ring.ring_finals ring_shown
  ring_finals_shown live =
      let z : get_or u 32 0 ≡ get_or u 32 0 - 0 = omega arith in
      ap₂ (λ x y. cond (x && y && not (ring_covered (side_table D.right) n u)) (get_or u 32 0 ∷ []) [])
      (ap (λ k. bit k (set_number 0 D.live)) z ∙ bit_number 0 64 D.live live (get_or u 32 0) (omega arith) good.first_small)
      (ends_shown D.left (get_or u 32 0) (get_or u 0 0) good.first_small good.P-small)
      ∙ ap (λ b. cond (member (get_or u 32 0) D.live && ends D.left shown.P (get_or u 32 0) && not b) (get_or u 32 0 ∷ []) [])
      ring_covered_shown
