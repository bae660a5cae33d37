-- Good cells and the ring standings that they show: a left occurrence is possible where P is not 0, and two standings are equal exactly where
-- their cells are. (Document 01, "Standings".) Each cell is read off the standing: the head from the first atom and Z, P as two halves, a row
-- as the number of its set.
-- Assumes nothing.
use Prim.Native.Nat.{ℕ, zero, suc, ◌-◌, ◌^◌, ◌≤◌, ◌<◌}
use native.Mathlib.Omega.{arith}
use mathlib.Core.Path.{◌≡◌, refl, sym, ◌∙◌, ap, ap₂, subst}
use mathlib.Core.Logic.{⊎_elim}
use mathlib.Core.Bool.{true, not, true≢false}
use mathlib.Core.List.{List, []}
use lib.Dec.{eqb}
use lib.ListN.{length, get_or}
use lib.Seq.{ext_get_or}
use Rattle.kat.specs.Tables.{occurrences}
use Rattle.kat.proofs.Bools.{bool_ext, le_or_lt}
use Rattle.kat.proofs.Sets.{at_upto}
use Rattle.claims.specs.Bytes.{same}
use Rattle.claims.specs.Fields.{number_set}
use Rattle.claims.specs.Lawful.{Lawful}
use Rattle.claims.specs.Sides.{Decision}
use Rattle.claims.specs.Standings.{row, ring_system}
use Rattle.claims.proofs.Results.{same_is_equal, same_self}
use Rattle.bits.proofs.Members.{numbers_equal, empty_test}
use Rattle.sheet_standings.specs.Layout.{wide}
use Rattle.sheet_standings.specs.RingCells.{head_cell, flag_in, row_m, row_n, ring_shown}
use Rattle.sheet_standings.specs.Good.{GoodCells}
use Rattle.sheet_standings.proofs.RingRows.{by_place}
use Rattle.sheet_standings.proofs.RingFits.{RingFacts}
use Rattle.sheet_standings.proofs.RingParts.{good_size, good_facts, shown_m, shown_n}

-- Z by its test
flags : (x y : ℕ) → x ≤ 1 → y ≤ 1 → eqb x 1 ≡ eqb y 1 → x ≡ y
flags zero zero h k e = refl
flags zero (suc zero) h k e = absurd (true≢false (sym e))
flags (suc zero) zero h k e = absurd (true≢false e)
flags (suc zero) (suc zero) h k e = refl
flags zero (suc (suc y)) h k e = absurd (omega arith)
flags (suc zero) (suc (suc y)) h k e = absurd (omega arith)
flags (suc (suc x)) y h k e = absurd (omega arith)

module _ (D : Decision) where
  abbrev l : ℕ
  l = occurrences D.left

  abbrev n : ℕ
  n = occurrences D.right

  -- a left occurrence is possible where P is not empty
  pub ring_possible_shown : (s : List ℕ) → GoodCells true D s → (ring_system D).possible (ring_shown D s) ≡ not (eqb (wide s 1) 0)
  ring_possible_shown s good =
      let z : l ≡ suc l - 1 = omega arith in
      ap not (empty_test 1 (suc l) (wide s 1) (subst (λ w. wide s 1 < 2 ^ w) z (good_facts D s good).P-small))

  module _ (few : n ≤ 31) (u v : List ℕ) (f : GoodCells true D u) (g : GoodCells true D v) (e : ring_shown D u ≡ ring_shown D v) where
    f_facts : RingFacts D.atoms l n u
    f_facts = good_facts D u f

    g_facts : RingFacts D.atoms l n v
    g_facts = good_facts D v g

    head_same : get_or u 0 0 ≡ get_or v 0 0
    head_same =
        f.head refl
        ∙ ap₂ head_cell (ap (λ r. r.first) e) (flags (flag_in u) (flag_in v) f_facts.flag_low g_facts.flag_low (ap (λ r. r.Z) e))
        ∙ sym (g.head refl)

    P-same : wide u 1 ≡ wide v 1
    P-same =
        let z : l ≡ suc l - 1 = omega arith in
        numbers_equal 1 (suc l) (wide u 1) (wide v 1) (subst (λ w. wide u 1 < 2 ^ w) z f_facts.P-small)
        (subst (λ w. wide v 1 < 2 ^ w) z g_facts.P-small) (ap (λ r. r.P) e)

    -- the two halves of P
    halves_same : (get_or u 1 0 ≡ get_or v 1 0) × (get_or u 2 0 ≡ get_or v 2 0)
    unfolding wide
    halves_same = (omega (arith, P-same, f.small 2, g.small 2), omega (arith, P-same, f.small 2, g.small 2))

    -- a row that is no table's past it
    row_number : (x y : ℕ) → x < 2 ^ suc n → y < 2 ^ suc n → number_set 0 (suc n) x ≡ number_set 0 (suc n) y → x ≡ y
    row_number x y h k d =
        let z : suc n ≡ suc n - 0 = omega arith in
        numbers_equal 0 (suc n) x y (subst (λ w. x < 2 ^ w) z h) (subst (λ w. y < 2 ^ w) z k) d

    M-same : (p : ℕ) → p < 32 → row_m u p ≡ row_m v p
    M-same p h =
        ⊎_elim
        (λ k. row_number (row_m u p) (row_m v p) (f_facts.M-small p h) (g_facts.M-small p h)
        (sym (at u (good_size D u f) k) ∙ ap (λ r. row r.M p) e ∙ at v (good_size D v g) k))
        (λ k. f_facts.M-past p k h ∙ sym (g_facts.M-past p k h)) (le_or_lt p n)
      where
        at : (s : List ℕ) → length s ≡ 67 → p ≤ n → row (ring_shown D s).M p ≡ number_set 0 (suc n) (row_m s p)
        at s size k =
            ap (λ t. row t p) (shown_m D s size few) ∙ at_upto (λ p. number_set 0 (suc n) (row_m s p)) [] (suc n) p (omega arith)

    N-same : (q : ℕ) → q < 32 → row_n u q ≡ row_n v q
    N-same q h =
        ⊎_elim
        (λ k. row_number (row_n u q) (row_n v q) (f_facts.N-small q h) (g_facts.N-small q h)
        (sym (at u (good_size D u f) k) ∙ ap (λ r. row r.N q) e ∙ at v (good_size D v g) k))
        (λ k. f_facts.N-past q k h ∙ sym (g_facts.N-past q k h)) (le_or_lt q n)
      where
        at : (s : List ℕ) → length s ≡ 67 → q ≤ n → row (ring_shown D s).N q ≡ number_set 0 (suc n) (row_n s q)
        at s size k =
            ap (λ t. row t q) (shown_n D s size few) ∙ at_upto (λ q. number_set 0 (suc n) (row_n s q)) [] (suc n) q (omega arith)

    pub cells_same : u ≡ v
    unfolding row_m row_n
    cells_same =
        ext_get_or 0 u v (good_size D u f ∙ sym (good_size D v g))
        (λ i h. by_place (λ i. get_or u i 0 ≡ get_or v i 0) head_same halves_same.0 halves_same.1 M-same N-same i
        (omega (arith, good_size D u f)))

  -- equal standings are equal cells
  pub ring_equal_shown : n ≤ 31 → Lawful (ring_system D) → (u v : List ℕ) → GoodCells true D u → GoodCells true D v
      → (ring_system D).equal (ring_shown D u) (ring_shown D v) ≡ same u v
  ring_equal_shown few law u v f g =
      bool_ext ((ring_system D).equal (ring_shown D u) (ring_shown D v)) (same u v)
      (λ e. subst (λ w. same u w ≡ true) (cells_same few u v f g (law.equal_sound (ring_shown D u) (ring_shown D v) e)) (same_self u))
      (λ e. subst (λ w. (ring_system D).equal (ring_shown D u) (ring_shown D w) ≡ true) (same_is_equal u v e) (law.equal_self (ring_shown D u)))
